-- Each step of the ledger keeps `Numbers`.
use Rattle.std.proofs.Common.{◌≡◌, ℕ, ◌+◌, ◌<◌, ◌≤◌, true, false, ltb, sym, refl, ap, ◌∙◌, subst, inl, inr, ⊎_elim, arith}
use Rattle.std.proofs.lemmas.Bool.{cases_Bool, cases_lt, cases_eq, both_ways, cond_both, leb-true, cases_order}
use Rattle.rules.specs.Members.{Among}
use Rattle.law.specs.Ledger.{Status, Mark, Packet, Use, Frame, Report, Receiver, Ledger, put, Received}
use Rattle.law.specs.Steps.{fresh, ticked, accepted, Accepts, Sends, sending, Oldest, Confirms, marked, after, Ages, Lowest}
use Rattle.law.proofs.Base.{never, put_elim, put_at, put_off, judged_cases}
use Rattle.law.proofs.Inv.{UseOk, Clash, Fair, Numbers, Inv}

module _ (d1 d2 : ℕ) (small : d1 + d2 ≤ 1) where
  pub numbers_fresh : (c : ℕ) → Numbers d1 (fresh c)
  numbers_fresh c = record {
    low = omega arith;
    high = omega arith;
    few = omega arith;
    below = λ n h. absurd (omega arith);
    sure = λ n h. absurd (omega arith);
    back = λ n h. absurd (omega arith);
    early = λ n h. never (cc);
    uses = λ n h. absurd (omega arith);
    claims = λ n m h. absurd (omega arith);
    waits = λ l i h. absurd (omega arith);
    sizes = λ i h. absurd (omega arith);
    births = λ i h. absurd (omega arith);
  }

  module _ (L : Ledger) (h : Inv d1 d2 L) where
    pub numbers_tick : (c : ℕ) → L.clock ≤ c → (st : ℕ → Status) → Ages L c st → Numbers d1 (ticked c st L)
    numbers_tick c later st ages = record {
      low = h.numbers.low;
      high = h.numbers.high;
      few = cond_both (ltb L.clock c) 0 L.tx.count (λ x. x ≤ 8) (λ _. omega arith) (λ _. h.numbers.few);
      below = h.numbers.below;
      sure = h.numbers.sure;
      back = λ n u e. let w = h.numbers.back n u e in (w.0, omega arith);
      early = h.numbers.early;
      uses = λ n u. let w = h.numbers.uses n u in record { known = w.known; piece = w.piece; born = w.born; young = w.young; past = omega arith };
      claims = h.numbers.claims;
      waits = λ l i k e. (ages i k).1 l e;
      sizes = h.numbers.sizes;
      births = λ i k. let w = h.numbers.births i k in omega arith;
    }

    -- the packets below total stay as they were
    abbrev pub kept_packet : (p : Packet) (i : ℕ) → i < L.tx.total → put L.tx.packet L.tx.total p i ≡ L.tx.packet i
    kept_packet p i k = put_off L.tx.packet L.tx.total p i (λ e. omega arith)

    pub numbers_accept : (p : Packet) → Accepts L p → Numbers d1 (accepted p L)
    numbers_accept p a = record {
      low = h.numbers.low;
      high = h.numbers.high;
      few = h.numbers.few;
      below = h.numbers.below;
      sure = h.numbers.sure;
      back = h.numbers.back;
      early = h.numbers.early;
      uses = λ n u.
          let w = h.numbers.uses n u in
          let e = kept_packet p (L.tx.sent n).packet w.known in
          record {
            known = omega arith;
            piece = rw e w.piece;
            born = rw e w.born;
            young = rw e w.young;
            past = w.past;
          };
      claims = h.numbers.claims;
      waits = λ l i k.
          ⊎_elim
          (λ same. λ _. rw (put_at L.tx.packet L.tx.total p i same) (omega (arith, a.now)))
          (λ other. let low : i < L.tx.total = omega arith in let e = kept_packet p i low in λ s. rw e (h.numbers.waits l i low (sym (put_off L.tx.status L.tx.total Status.Pending i other) ∙ s)))
          (cases_eq i L.tx.total);
      sizes = λ i k. put_elim L.tx.packet L.tx.total p i (λ x. 1 ≤ x.size) (λ _. a.some) (λ o. h.numbers.sizes i (omega arith));
      births = λ i k. put_elim L.tx.packet L.tx.total p i (λ x. x.born ≤ L.clock) (λ _. omega (arith, a.now)) (λ o. h.numbers.births i (omega arith));
    }

    -- a number that is sent under anew was not received
    pub unheard : (n i b : ℕ) → Sends L n i b → L.rx.got n ≡ true → ⊥
    unheard n i b s g =
        ⊎_elim
        (λ e. let k = h.numbers.early n g in omega arith)
        (λ o. both_ways _ (h.numbers.back n o.0 o.1).0 g)
        s.open?

    pub received_sent : (n i b : ℕ) → Sends L n i b → (j d : ℕ) → Received L.tx L.rx j d → Received (sending n i b L).tx L.rx j d
    received_sent n i b s j d r =
        let other : r.0 ≡ n → ⊥ = λ e. unheard n i b s (subst (λ x. L.rx.got x ≡ true) e r.2) in
        let e = put_off L.tx.sent n (record { packet = i; part = b; slot = L.clock; mark = Mark.InFlight }) r.0 other in
        (r.0, omega (arith, r.1), r.2, rw e r.3, rw e r.4)

    pub sent_received : (n i b : ℕ) → Sends L n i b → (j d : ℕ) → Received (sending n i b L).tx L.rx j d → Received L.tx L.rx j d
    sent_received n i b s j d r =
        let other : r.0 ≡ n → ⊥ = λ e. unheard n i b s (subst (λ x. L.rx.got x ≡ true) e r.2) in
        let e = put_off L.tx.sent n (record { packet = i; part = b; slot = L.clock; mark = Mark.InFlight }) r.0 other in
        (r.0, h.numbers.early r.0 r.2, r.2, rw e at r.3, rw e at r.4)

    pub numbers_send : (n i b : ℕ) → Sends L n i b → Numbers d1 (sending n i b L)
    numbers_send n i b s =
        let new : Use = record { packet = i; part = b; slot = L.clock; mark = Mark.InFlight } in
        let top : n ≤ L.tx.used = omega arith in
        record {
          low = omega arith;
          high = omega arith;
          few = omega arith;
          below = λ m k.
              put_elim L.tx.sent n new m (λ u. u.mark ≡ Mark.Acked) (λ e. absurd (omega (arith, s.from))) (λ o. h.numbers.below m k);
          sure = λ m k. put_elim L.tx.sent n new m (λ u. u.mark ≡ Mark.Acked → L.rx.got m ≡ true) (λ e x. never (cc)) (λ o. h.numbers.sure m (omega arith));
          back = λ m k. put_elim L.tx.sent n new m (λ u. u.mark ≡ Mark.Returned → (L.rx.got m ≡ false) × (u.slot + d1 < L.clock)) (λ e x. never (cc)) (λ o. h.numbers.back m (omega arith));
          early = λ m g. let k = h.numbers.early m g in omega arith;
          uses = λ m k.
              put_elim L.tx.sent n new m (UseOk L.clock L.tx.total L.tx.packet)
              (λ e.
              let w = h.numbers.waits s.live i s.known s.pending in
              record { known = s.known; piece = s.piece; born = h.numbers.births i s.known; young = omega arith; past = omega arith })
              (λ o. h.numbers.uses m (omega arith));
          claims = λ x y k l.
              put_elim L.tx.sent n new x (λ u. Clash u (put L.tx.sent n new y) → x ≡ y)
              (λ e.
              put_elim L.tx.sent n new y (λ v. Clash new v → x ≡ y)
              (λ e2 c. omega arith)
              (λ o c. absurd (c.two (s.waits y (omega arith) (sym c.packet) (sym c.part)))))
              (λ o.
              put_elim L.tx.sent n new y (λ v. Clash (L.tx.sent x) v → x ≡ y)
              (λ e c. absurd (c.one (s.waits x (omega arith) c.packet c.part)))
              (λ o2 c. h.numbers.claims x y (omega arith) (omega arith) c));
          waits = h.numbers.waits;
          sizes = h.numbers.sizes;
          births = h.numbers.births;
        }

    -- a frame that comes is of a number that is not returned
    pub claimed : (f : Frame) → Among f L.frames → L.clock ≤ f.slot + d1 → (L.tx.sent f.number).mark ≡ Mark.Returned → ⊥
    claimed f u t e =
        let w = h.underway.frames f u t in
        let x = h.numbers.back f.number w.number e in
        omega (arith, w.slot, x.1)

    -- what was received stays so when the receiving half, now X, counts one number more
    pub received_more : (f : Frame) (X : Receiver) → X.got ≡ put L.rx.got f.number true → (j d : ℕ) → Received L.tx L.rx j d → Received L.tx X j d
    received_more f X e j d r =
        (r.0, r.1, ap (λ g. g r.0) e ∙ put_elim L.rx.got f.number true r.0 (λ x. x ≡ true) (λ _. refl) (λ _. r.2), r.3, r.4)

    pub numbers_take : (f : Frame) → Among f L.frames → L.clock ≤ f.slot + d1 → (X : Receiver) → X.got ≡ put L.rx.got f.number true
        → Numbers d1 (record { clock = L.clock; tx = L.tx; rx = X; frames = L.frames; reports = L.reports })
    numbers_take f u t X e = record {
      low = h.numbers.low;
      high = h.numbers.high;
      few = h.numbers.few;
      below = h.numbers.below;
      sure = λ m k a. rw e (put_elim L.rx.got f.number true m (λ x. x ≡ true) (λ _. refl) (λ _. h.numbers.sure m k a));
      back = λ m k a.
          let w = h.numbers.back m k a in
          (rw e (put_elim L.rx.got f.number true m (λ x. x ≡ false) (λ same. absurd (claimed f u t (subst (λ x. (L.tx.sent x).mark ≡ Mark.Returned) same a))) (λ _. w.0)), w.1);
      early = λ m. rw e (put_elim L.rx.got f.number true m (λ x. x ≡ true → m < L.tx.used) (λ same _. let w = h.underway.frames f u t in omega (arith, w.number)) (λ _. h.numbers.early m));
      uses = h.numbers.uses;
      claims = h.numbers.claims;
      waits = h.numbers.waits;
      sizes = h.numbers.sizes;
      births = h.numbers.births;
    }

    -- the oldest number not received stands between the oldest not acknowledged and the first unused
    pub lowest_between : (R : ℕ) → Lowest L R → (L.tx.oldest ≤ R) × (R ≤ L.tx.used)
    lowest_between R lo =
        let low = h.numbers.low in (
          ⊎_elim (λ k. absurd (both_ways _ lo.1 (h.numbers.sure R (omega arith) (h.numbers.below R k)))) (λ k. k) (cases_lt R L.tx.oldest),
          ⊎_elim (λ k. let z = h.numbers.early L.tx.used (lo.0 L.tx.used k) in absurd (omega arith)) (λ k. k) (cases_lt L.tx.used R),
        )

    -- a report that comes is fair
    pub fair_report : (r : Report) → Among r L.reports → L.clock ≤ r.slot + d2 → Fair d1 L (after L r)
    fair_report r u t n k =
        let w = h.underway.reports r u t in
        ⊎_elim
        inl
        (λ x.
        inr (
          x.0,
          ⊎_elim
              (λ y. inl (y.0, w.told n y.1))
              (λ y.
              let old = leb-true _ _ y.2 in
              inr (y.0, ⊎_elim (λ g. absurd (both_ways _ y.1 (w.all n k g (omega arith)))) (λ g. g) (cases_Bool (L.rx.got n)), omega arith))
              x.1,
        ))
        (judged_cases _ _ _)

    module _ (mk : ℕ → Mark) (fair : Fair d1 L mk) where
      pub fair_acked : (n : ℕ) → n < L.tx.used → mk n ≡ Mark.Acked → L.rx.got n ≡ true
      fair_acked n k e = ⊎_elim (λ x. h.numbers.sure n k (sym x ∙ e)) (λ x. ⊎_elim (λ y. y.1) (λ y. never (let z = y.0 in cc)) x.1) (fair n k)

      fair_still : (n : ℕ) → n < L.tx.used → (L.tx.sent n).mark ≡ Mark.Acked → mk n ≡ Mark.Acked
      fair_still n k e = ⊎_elim (λ x. x ∙ e) (λ x. never (let z = x.0 in cc)) (fair n k)

      fair_back : (n : ℕ) → n < L.tx.used → (L.tx.sent n).mark ≡ Mark.Returned → mk n ≡ Mark.Returned
      fair_back n k e = ⊎_elim (λ x. x ∙ e) (λ x. never (let z = x.0 in cc)) (fair n k)

      pub numbers_mark : (A : ℕ) → Oldest L mk A → (st : ℕ → Status) → Confirms L mk st → Numbers d1 (marked mk A st L)
      numbers_mark A o st cs = record {
        low = o.within;
        high = omega (arith, o.up, h.numbers.high);
        few = h.numbers.few;
        below = λ n k. let low = h.numbers.low in ⊎_elim (λ below. fair_still n (omega arith) (h.numbers.below n below)) (λ up. o.past n up k) (cases_lt n L.tx.oldest);
        sure = fair_acked;
        back = λ n k e. ⊎_elim (λ x. h.numbers.back n k (sym x ∙ e)) (λ x. ⊎_elim (λ y. never (let z = y.0 in cc)) (λ y. (y.1, y.2)) x.1) (fair n k);
        early = h.numbers.early;
        uses = h.numbers.uses;
        claims = λ n m k l x. h.numbers.claims n m k l (record { one = λ e. x.one (fair_back n k e); two = λ e. x.two (fair_back m l e); packet = x.packet; part = x.part });
        waits = λ l i k e. ⊎_elim (λ same. h.numbers.waits l i k (sym same ∙ e)) (λ new. never (let z = new.1 in cc)) (cs i k);
        sizes = h.numbers.sizes;
        births = h.numbers.births;
      }

-- there is one least number that is not received
pub lowest_one : (L : Ledger) (a b : ℕ) → Lowest L a → Lowest L b → a ≡ b
lowest_one L a b x y =
    ⊎_elim (λ e. e)
    (⊎_elim (λ k. absurd (both_ways (L.rx.got a) x.1 (y.0 a k))) (λ k. absurd (both_ways (L.rx.got b) y.1 (x.0 b k))))
    (cases_order a b)
