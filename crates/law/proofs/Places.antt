-- Each step of the ledger keeps `Places`.
use Rattle.std.proofs.Common.{◌≡◌, ℕ, suc, ◌+◌, ◌<◌, ◌≤◌, Bool, true, false, cond, ◌&&◌, leb, ◌⊎◌, sym, refl, ap, ◌∙◌, inl, inr, ⊎_elim, arith}
use Rattle.std.proofs.lemmas.Bool.{cases_Bool, cases_eq, both_ways, cond-false, leb-true, leb-false, and_parts, and_cases}
use Rattle.law.specs.Ledger.{Status, Mark, Cell, Packet, Ledger, put, Received, cell}
use Rattle.law.specs.Steps.{fresh, ticked, Accepts, accepted, Sends, sending, Confirms, marked, Ages}
use Rattle.law.proofs.Base.{never, put_elim, put_at, put_off}
use Rattle.law.proofs.Inv.{Fair, Places, Inv}
use Rattle.law.proofs.Numbers.{kept_packet, received_sent, sent_received, fair_acked}

cond_from : (t : Bool) (x : Cell) (i : ℕ) → cond t Cell.Empty x ≡ Cell.From i → (t ≡ false) × (x ≡ Cell.From i)
cond_from true x i e = never (cc)
cond_from false x i e = (refl, e)

module _ (d1 d2 : ℕ) (small : d1 + d2 ≤ 1) where
  pub places_fresh : (c : ℕ) → Places (fresh c)
  places_fresh c = record {
    held = λ p b i e. never (cc);
    lacks = λ i k. absurd (omega arith);
    where_is = λ i b r. absurd (omega (arith, r.1));
    whole = λ i k. absurd (omega arith);
    older = λ i j l k. absurd (omega arith);
    safe = λ i k. absurd (omega arith);
  }

  module _ (L : Ledger) (h : Inv d1 d2 L) where
    pub places_tick : (c : ℕ) → L.clock ≤ c → (st : ℕ → Status) → Ages L c st → Places (ticked c st L)
    places_tick c later st ages =
        let gone : ℕ → Bool = λ p. L.rx.live && leb ((L.rx.place p).since + 75) c in
        record {
          held = λ p b i e.
              let x = cond_from (gone p) ((L.rx.place p).holds b) i e in
              let v = h.places.held p b i x.1 in
              record {
                mine = v.mine;
                known = v.known;
                kept = v.kept;
                came = v.came;
                born = v.born;
                young = v.young;
                lasts = λ l. ⊎_elim (λ y. absurd (both_ways _ y l)) (λ y. leb-false ((L.rx.place p).since + 75) c y) (and_cases L.rx.live (leb ((L.rx.place p).since + 75) c) x.0);
                only = λ d j y. v.only d j (cond_from (gone p) ((L.rx.place p).holds d) j y).1;
                all = λ d r. cond-false (gone p) Cell.Empty ((L.rx.place p).holds d) x.0 ∙ v.all d r;
              };
          lacks = λ i k all. h.places.lacks i k (λ b t. (cond_from (gone (L.tx.packet i).key) (cell L i b) i (all b t)).1);
          where_is = λ i b r.
              ⊎_elim inl
              (⊎_elim
              (λ e.
              let p : ℕ = (L.tx.packet i).key in
              let v = h.places.held p b i e in
              ⊎_elim
              (λ y. inr (inr (let z = leb-true ((L.rx.place p).since + 75) c (and_parts L.rx.live (leb ((L.rx.place p).since + 75) c) y).1 in omega (arith, v.born))))
              (λ y. inr (inl (cond-false (gone p) Cell.Empty (cell L i b) y ∙ e)))
              (cases_Bool (gone p)))
              (λ old. inr (inr (omega arith))))
              (h.places.where_is i b r);
          whole = h.places.whole;
          older = λ i j l k e.
              ⊎_elim inl
              (⊎_elim (λ old. inr (inl (omega arith)))
              (λ un. inr (inr (⊎_elim (λ x. x ∙ un.0) (λ x. x.1) (ages i (omega arith)).0, un.1))))
              (h.places.older i j l k e);
          safe = λ i k e. ⊎_elim (λ x. h.places.safe i k (sym x ∙ e)) (λ x. never (let z = x.1 in cc)) (ages i k).0;
        }

    pub places_accept : (p : Packet) → Accepts L p → Places (accepted p L)
    places_accept p a =
        let N : ℕ = L.tx.total in
        let packets : ℕ → Packet = put L.tx.packet N p in
        let same : (i : ℕ) → i < N → packets i ≡ L.tx.packet i = kept_packet d1 d2 small L h p in
        let hand : (i : ℕ) → i < N → put L.rx.handed N false i ≡ L.rx.handed i = λ i k. put_off L.rx.handed N false i (λ e. omega arith) in
        let state : (i : ℕ) → i < N → put L.tx.status N Status.Pending i ≡ L.tx.status i = λ i k. put_off L.tx.status N Status.Pending i (λ e. omega arith) in
        let few : (i : ℕ) → i < suc N → (i ≡ N) ⊎ (i < N) = λ i k. ⊎_elim inl (λ o. inr (omega arith)) (cases_eq i N) in
        let used : (i b : ℕ) → Received L.tx L.rx i b → i < N = λ i b r. let y = (h.numbers.uses r.0 r.1).known in let z = r.3 in omega arith in
        record {
          held = λ q b i e.
              let v = h.places.held q b i e in
              let s = same i v.known in
              record {
                mine = rw s v.mine;
                known = omega (arith, v.known);
                kept = hand i v.known ∙ v.kept;
                came = v.came;
                born = rw s v.born;
                young = rw s v.young;
                lasts = v.lasts;
                only = v.only;
                all = v.all;
              };
          lacks = λ i k.
              ⊎_elim
              (λ e all.
              let big : 0 < (packets i).size = rw (put_at L.tx.packet N p i e) (omega (arith, a.some)) in
              let v = h.places.held (packets i).key 0 i (all 0 big) in omega (arith, v.known))
              (λ l all. h.places.lacks i l (λ b t. ap (λ x. (L.rx.place x.key).holds b) (sym (same i l)) ∙ all b (rw (same i l) t)))
              (few i k);
          where_is = λ i b r.
              let l = used i b r in
              ⊎_elim
              (λ e. inl (hand i l ∙ e))
              (⊎_elim (λ e. inr (inl (ap (λ x. (L.rx.place x.key).holds b) (same i l) ∙ e))) (λ old. inr (inr (rw (same i l) old))))
              (h.places.where_is i b r);
          whole = λ i k.
              ⊎_elim
              (λ e t. absurd (both_ways _ (put_at L.rx.handed N false i e) t))
              (λ l t b s. h.places.whole i l (sym (hand i l) ∙ t) b (rw (same i l) at s))
              (few i k);
          older = λ i j l k.
              let low : i < N = omega arith in
              rw (same i low, state i low)
              (⊎_elim
              (λ e x.
              ⊎_elim
              (λ c. inl (h.places.whole i low (h.places.safe i low c)))
              (λ c. inr (⊎_elim inl (λ un. inr (c.0, un)) c.1))
              (a.free i low (x ∙ ap (λ y. y.key) (put_at L.tx.packet N p j e))))
              (λ m x. h.places.older i j l m (x ∙ ap (λ y. y.key) (same j m)))
              (few j k));
          safe = λ i k.
              ⊎_elim
              (λ e t. never (let z = put_at L.tx.status N Status.Pending i e in cc))
              (λ l t. hand i l ∙ h.places.safe i l (sym (state i l) ∙ t))
              (few i k);
        }

    pub places_send : (n i b : ℕ) → Sends L n i b → Places (sending n i b L)
    places_send n i b s =
        let on : (j d : ℕ) → Received L.tx L.rx j d → Received (sending n i b L).tx L.rx j d = received_sent d1 d2 small L h n i b s in
        let off : (j d : ℕ) → Received (sending n i b L).tx L.rx j d → Received L.tx L.rx j d = sent_received d1 d2 small L h n i b s in
        record {
          held = λ q d j e.
              let v = h.places.held q d j e in
              record {
                mine = v.mine;
                known = v.known;
                kept = v.kept;
                came = on j d v.came;
                born = v.born;
                young = v.young;
                lasts = v.lasts;
                only = v.only;
                all = λ x r. v.all x (off j x r);
              };
          lacks = h.places.lacks;
          where_is = λ j d r. h.places.where_is j d (off j d r);
          whole = λ j k e d t. on j d (h.places.whole j k e d t);
          older = λ j k l m e.
              ⊎_elim (λ all. inl (λ d t. on j d (all d t)))
              (⊎_elim (λ old. inr (inl old))
              (λ un. inr (inr (
                un.0,
                λ x y.
                    put_elim L.tx.sent n (record { packet = i; part = b; slot = L.clock; mark = Mark.InFlight }) x (λ v. v.packet ≡ j → ⊥)
                    (λ _ z. never (let w = ap L.tx.status z in let v = s.pending in let q = un.0 in cc))
                    (λ o. un.1 x (let top : n ≤ L.tx.used = omega (arith, s.open?) in omega arith)),
              ))))
              (h.places.older j k l m e);
          safe = h.places.safe;
        }

    pub places_mark : L.tx.live ≡ true → (mk : ℕ → Mark) → Fair d1 L mk → (A : ℕ) (st : ℕ → Status) → Confirms L mk st → Places (marked mk A st L)
    places_mark live mk fair A st cs = record {
      held = h.places.held;
      lacks = h.places.lacks;
      where_is = h.places.where_is;
      whole = h.places.whole;
      older = λ i j l k e.
          ⊎_elim inl
          (⊎_elim (λ old. inr (inl old)) (λ un. inr (inr (⊎_elim (λ x. x ∙ un.0) (λ x. never (let z = x.0 in let q = un.0 in cc)) (cs i (omega arith)), un.1))))
          (h.places.older i j l k e);
      safe = λ i k e.
          ⊎_elim
          (λ same. h.places.safe i k (sym same ∙ e))
          (λ new.
          let young = h.numbers.waits live i k new.0 in
          ⊎_elim
          (λ x. x)
          (λ not_yet. absurd (h.places.lacks i k (λ b t.
          let y = new.2 b t in
          ⊎_elim (λ x. absurd (both_ways _ not_yet x)) (⊎_elim (λ x. x) (λ old. absurd (omega arith)))
          (h.places.where_is i b (y.0, y.1, fair_acked d1 d2 small L h mk fair y.0 y.1 y.2, y.3, y.4)))))
          (cases_Bool (L.rx.handed i)))
          (cs i k);
    }
