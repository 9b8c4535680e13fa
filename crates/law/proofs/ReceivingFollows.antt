-- Each rule of the receiving half is a step of the ledger.
use Rattle.std.proofs.Common.{◌≡◌, ℕ, ◌+◌, ◌*◌, ◌/◌, ◌%◌, ◌<◌, ◌≤◌, Bool, true, false, cond, not, ◌&&◌, ltb, leb, List, get_or, set, replicate, Some, None, Option, sym, refl, ap, ◌∙◌, subst, inl, inr, ⊎_elim, arith}
use Rattle.std.proofs.lemmas.List.{length-set, length-map, get_or-set_same, get_or-set_other, get_or-map, get_or-replicate}
use Rattle.std.proofs.lemmas.Bool.{cases_Bool, cases_eq, both_ways, lt-ltb, le-leb, ltb-true, leb-true, and_parts, cond_both, cond-true, cond-false}
use Rattle.rules.specs.Members.{Among}
use Rattle.law.specs.Ledger.{Status, Cell, Packet, Frame, Receiver, Ledger, put}
use Rattle.law.specs.Ledger as ledger
use Rattle.law.specs.Steps.{fresh, ticked, accepted, landed, handed_up, Comes, Full, Lowest, Run}
use Rattle.law.specs.Sound.{Taken, Sound}
use Rattle.law.proofs.Base.{never, put_elim, put_at, put_off}
use Rattle.law.proofs.Runs.{kept}
use Rattle.law.proofs.Taking.{cell_cases}
use Rattle.law.proofs.Sound.{link_sound}
use Rattle.rules.specs.Receiving.{Bdu, Place, Receiving, Answer, empty, new, awaited, received, place, with_place, contradicts, added, packet, settled, bring, aged, slot, report}
use Rattle.law.specs.ReceivingTie.{Body, shown, SamePlace, Tied, carried}
use Rattle.law.specs.ReceivingFollows.{Follows, Tells, ReceivingFollows}
use Rattle.law.proofs.ReceivingWindow.{false_from, least}
use Rattle.law.proofs.ReceivingNumbers.{awaited_is, low, low_below, low_stops, oldest_is, eight_is, flags_are}
use Rattle.law.proofs.ReceivingHolding.{no_contradiction, added_same, opens, whole_if, whole_only}

shown_old : (f g : ℕ → List ℕ) (b : ℕ) (c : Cell) → ((i : ℕ) → c ≡ Cell.From i → f i ≡ g i) → shown f b c ≡ shown g b c
shown_old f g b Cell.Empty h = refl
shown_old f g b (Cell.From i) h = ap (λ x. shown (λ _. x) b (Cell.From i)) (h i refl)

-- an empty place
empty_same : (L : Ledger) (bodies : ℕ → List ℕ) (at : ledger.Place) → ((b : ℕ) → at.holds b ≡ Cell.Empty) → SamePlace L bodies empty at
empty_same L bodies at h = record {
  eight = refl;
  pieces = λ b l. get_or-replicate 8 b None None l ∙ sym (ap (shown bodies b) (h b));
  opened = λ b i e. never (let z = h b in cc);
  last = λ b i e. never (let z = h b in cc);
  is_last = λ b e. never (cc);
}

new_tied : (c : ℕ) (bodies : ℕ → List ℕ) → Tied new (fresh c) bodies
new_tied c bodies = record {
  low = 0;
  lowest = (λ n l. absurd (omega arith), refl);
  oldest = refl;
  eight = refl;
  flags = λ i l. get_or-replicate 8 i false false l;
  sixteen = refl;
  places = λ p l. subst (λ P. SamePlace (fresh c) bodies P ((fresh c).rx.place p)) (sym (get_or-replicate 16 p empty empty l)) (empty_same (fresh c) bodies ((fresh c).rx.place p) (λ b. refl));
  bodies = λ i l. absurd (omega arith);
}

module _ (d1 d2 : ℕ) (small : d1 + d2 ≤ 1) (L : Ledger) (run : Run d1 d2 L) where
  least_not_got : (R : ℕ) × Lowest L R
  least_not_got =
      let h = kept d1 d2 small run in
      least L.rx.got L.tx.used 0 (λ n l. absurd (omega arith)) (false_from (L.rx.got (0 + L.tx.used)) (λ e. let z = h.numbers.early (0 + L.tx.used) e in omega arith))

  module _ (V : Receiving) (bodies : ℕ → List ℕ) (t : Tied V L bodies) (f : Frame) (live : L.rx.live ≡ true) (u : Among f L.frames) (timely : L.clock ≤ f.slot + d1) where
    s : Sound d1 d2 L
    s = link_sound d1 d2 small L run

    abbrev key : ℕ
    key = (L.tx.packet f.packet).key

    abbrev bdu : Bdu
    bdu = carried L bodies f

    abbrev P : Place
    P = place V bdu

    key_is : 4 * (key / 4) + key % 4 ≡ key
    key_is = omega arith

    module _ (a : L.rx.got f.number ≡ false) where
      taken : Taken L f
      taken = s.taken f live u timely a

      comes : Comes d1 L f
      comes = record { live = live; underway = u; timely = timely; awaited = a; apart = taken.apart }

      body : Body (L.tx.packet f.packet) (bodies f.packet)
      body = t.bodies f.packet taken.last.0

      sp : SamePlace L bodies P (L.rx.place key)
      sp = subst (λ k. SamePlace L bodies (get_or V.places k empty) (L.rx.place key)) (sym key_is) (t.places key body.key)

      -- the number counts as received, and the place of the BDU is now P'
      tied_after : (X : Receiver) (P' : Place) (at : ledger.Place) → X.got ≡ put L.rx.got f.number true → X.place ≡ put L.rx.place key at → SamePlace L bodies P' at
          → Tied (with_place bdu P' (received (f.number % 256) V)) (record { clock = L.clock; tx = L.tx; rx = X; frames = L.frames; reports = L.reports }) bodies
      tied_after X P' at g pl same =
          let at_key : (p : ℕ) → get_or (set V.places (4 * (key / 4) + key % 4) P') p empty ≡ get_or (set V.places key P') p empty = λ p. ap (λ k. get_or (set V.places k P') p empty) key_is in
          record {
            low = low d1 d2 L s V bodies t f u timely a;
            lowest = (λ n l. ap (λ x. x n) g ∙ low_below d1 d2 L s V bodies t f u timely a n l, ap (λ x. x (low d1 d2 L s V bodies t f u timely a)) g ∙ low_stops d1 d2 L s V bodies t f u timely a);
            oldest = oldest_is d1 d2 L s V bodies t f u timely a;
            eight = eight_is d1 d2 L s V bodies t f u timely a;
            flags = λ i l. flags_are d1 d2 L s V bodies t f u timely a i l ∙ ap (λ x. x (low d1 d2 L s V bodies t f u timely a + 1 + i)) (sym g);
            sixteen = length-set V.places (4 * (key / 4) + key % 4) P' ∙ t.sixteen;
            places = λ p l.
                subst (λ x. SamePlace L bodies (get_or (set V.places (4 * (key / 4) + key % 4) P') p empty) (x p)) (sym pl)
                (put_elim L.rx.place key at p (λ x. SamePlace L bodies (get_or (set V.places (4 * (key / 4) + key % 4) P') p empty) x)
                (λ e. subst (λ x. SamePlace L bodies x at) (sym (at_key p ∙ ap (λ k. get_or (set V.places key P') k empty) e ∙ get_or-set_same V.places key P' empty (let w = t.sixteen in omega arith))) same)
                (λ e. subst (λ x. SamePlace L bodies x (L.rx.place p)) (sym (at_key p ∙ get_or-set_other V.places key p P' empty e)) (t.places p l)));
            bodies = t.bodies;
          }

      abbrev P' : Place
      P' = added P bdu L.clock

      -- once it is taken, it is held or its packet handed up
      ends : (o : Option (List ℕ)) → packet P' ≡ o → Follows d1 V L bodies f (settled (received (f.number % 256) V) bdu P' o)
      ends None e =
          let part : Full L f → ⊥ = λ full. never (let z = whole_if d1 d2 L s bodies f comes taken body P sp L.clock full in cc) in
          let o = opens d1 d2 L s bodies f comes taken body P sp L.clock refl in
          inr (inl (
            refl,
            comes,
            part,
            (
              P'.opened,
              o,
              tied_after (landed f P'.opened L).rx P' _ refl refl (added_same d1 d2 L s bodies f comes taken body P sp L.clock),
            ),
          ))
      ends (Some xs) e =
          let full = whole_only d1 d2 L s bodies f comes taken body P sp L.clock xs e in
          let same : xs ≡ bodies f.packet = let z = whole_if d1 d2 L s bodies f comes taken body P sp L.clock full in cc in
          inr (inr (
            ap (Answer.Packet (key / 4) (key % 4)) same,
            comes,
            full,
            tied_after (handed_up f L).rx empty _ refl refl (empty_same L bodies _ (λ b. refl)),
          ))

    brings : Follows d1 V L bodies f (bring V (f.number % 256) bdu L.clock)
    brings =
        let w = awaited_is d1 d2 L s V bodies t f u timely in
        ⊎_elim
        (λ g. inl (g, cond-false (awaited V (f.number % 256)) _ (Answer.Refused 7, V) (w ∙ ap not g)))
        (λ a.
        subst (Follows d1 V L bodies f)
        (sym (cond-true (awaited V (f.number % 256)) _ (Answer.Refused 7, V) (w ∙ ap not a) ∙ cond-false (contradicts P bdu) (Answer.Refused 8, V) _ (no_contradiction d1 d2 L s bodies f (comes a) (taken a) (body a) P (sp a))))
        (ends a (packet (P' a)) refl))
        (cases_Bool (L.rx.got f.number))

  accepts : (V : Receiving) (bodies : ℕ → List ℕ) → Tied V L bodies → (p : Packet) (octets : List ℕ) → Body p octets → Tied V (accepted p L) (put bodies L.tx.total octets)
  accepts V bodies t p octets body =
      let h = kept d1 d2 small run in
      let N : ℕ = L.tx.total in
      let old : (q b i : ℕ) → (L.rx.place q).holds b ≡ Cell.From i → i < N = λ q b i e. (h.places.held q b i e).known in
      let same : (i : ℕ) → i < N → put L.tx.packet N p i ≡ L.tx.packet i = λ i l. put_off L.tx.packet N p i (λ e. omega arith) in
      record {
        low = t.low;
        lowest = t.lowest;
        oldest = t.oldest;
        eight = t.eight;
        flags = t.flags;
        sixteen = t.sixteen;
        places = λ q l.
            let x = t.places q l in
            record {
              eight = x.eight;
              pieces = λ b k.
                  x.pieces b k
                  ∙ shown_old bodies (put bodies N octets) b ((L.rx.place q).holds b) (λ i e. sym (put_off bodies N octets i (λ z. let y = old q b i e in omega arith)));
              opened = x.opened;
              last = λ b i e z. x.last b i e (z ∙ ap (λ y. y.size) (same i (old q b i e)));
              is_last = λ b e. let y = x.is_last b e in (y.0, y.1, y.2 ∙ sym (ap (λ v. v.size) (same y.0 (old q b y.0 y.1))));
            };
        bodies = λ i l.
            ⊎_elim
            (λ e. rw (put_at L.tx.packet N p i e, put_at bodies N octets i e) body)
            (λ e. rw (put_off L.tx.packet N p i e, put_off bodies N octets i e) (t.bodies i (omega arith)))
            (cases_eq i N);
      }

-- a place that holds nothing is emptied to no effect, another with the ledger's
aged_same : (L : Ledger) (bodies : ℕ → List ℕ) (c : ℕ) (st : ℕ → Status) → L.rx.live ≡ true → (p : ℕ) (P : Place) → SamePlace L bodies P (L.rx.place p)
    → SamePlace (ticked c st L) bodies (aged c P) ((ticked c st L).rx.place p)
aged_same L bodies c st live p P x =
    let at : ledger.Place = L.rx.place p in
    let gone : Bool = leb (at.since + 75) c in
    let is : (L.rx.live && gone) ≡ gone = ap (λ b. b && gone) live in
    let none : (leb (P.opened + 75) c ≡ gone → ⊥) → (b : ℕ) → at.holds b ≡ Cell.Empty = λ apart b. ⊎_elim (λ z. z) (λ z. absurd (apart (ap (λ o. leb (o + 75) c) (x.opened b z.0 z.1)))) (cell_cases (at.holds b)) in
    let T : Bool → ledger.Place = λ g. record { since = at.since; holds = λ b. cond g Cell.Empty (at.holds b) } in
    let goal : SamePlace L bodies (aged c P) (T gone) =
    ⊎_elim
    (λ e.
    subst (λ y. SamePlace L bodies (aged c P) (T y)) (sym e)
    (cond_both (leb (P.opened + 75) c) empty P (λ Q. SamePlace L bodies Q (T true))
    (λ _. empty_same L bodies (T true) (λ b. refl))
    (λ young.
    let n = none (λ z. both_ways _ (sym z ∙ young) e) in
    record {
      eight = x.eight;
      pieces = λ b l. x.pieces b l ∙ ap (shown bodies b) (n b);
      opened = λ b i z. never (cc);
      last = λ b i z. never (cc);
      is_last = λ b z. let y = x.is_last b z in never (let w = n b in let v = y.1 in cc);
    })))
    (λ e.
    subst (λ y. SamePlace L bodies (aged c P) (T y)) (sym e)
    (cond_both (leb (P.opened + 75) c) empty P (λ Q. SamePlace L bodies Q (T false)) (λ old. empty_same L bodies at (none (λ z. both_ways _ e (sym z ∙ old)))) (λ _. x)))
    (cases_Bool gone) in
    subst (λ g. SamePlace L bodies (aged c P) (T g)) (sym is) goal

slots : (V : Receiving) (L : Ledger) (bodies : ℕ → List ℕ) → Tied V L bodies → L.rx.live ≡ true → (c : ℕ) (st : ℕ → Status) → Tied (slot c V) (ticked c st L) bodies
slots V L bodies t live c st = record {
  low = t.low;
  lowest = t.lowest;
  oldest = t.oldest;
  eight = t.eight;
  flags = t.flags;
  sixteen = length-map V.places (aged c) ∙ t.sixteen;
  places = λ p l.
      subst (λ P. SamePlace (ticked c st L) bodies P ((ticked c st L).rx.place p)) (sym (get_or-map (aged c) V.places p empty empty (let w = t.sixteen in omega arith)))
      (aged_same L bodies c st live p (get_or V.places p empty) (t.places p l));
  bodies = t.bodies;
}

told : (V : Receiving) (L : Ledger) (bodies : ℕ → List ℕ) (t : Tied V L bodies) → Tells (report V) (record { low = t.low; flag = λ n. ltb t.low n && (leb n (t.low + 8) && L.rx.got n); slot = L.clock })
told V L bodies t = record {
  oldest = t.oldest;
  eight = t.eight;
  flags = λ i l.
      t.flags i l
      ∙ sym (ap (λ b. b && (leb (t.low + 1 + i) (t.low + 8) && L.rx.got (t.low + 1 + i))) (lt-ltb t.low (t.low + 1 + i) (omega arith))
      ∙ ap (λ b. b && L.rx.got (t.low + 1 + i)) (le-leb (t.low + 1 + i) (t.low + 8) (omega arith)));
  within = λ n e.
      let x = and_parts (ltb t.low n) (leb n (t.low + 8) && L.rx.got n) e in
      (ltb-true t.low n x.0, leb-true n (t.low + 8) (and_parts (leb n (t.low + 8)) (L.rx.got n) x.1).0);
}

still_new : (c : ℕ) → slot c new ≡ new
still_new c = cond_both (leb (empty.opened + 75) c) empty empty (λ P. ◌≡◌ {A = Receiving} (record { oldest = 0; flags = replicate 8 false; places = replicate 16 P }) new) (λ _. refl) (λ _. refl)

pub follows : ReceivingFollows
follows = record {
  starts = new_tied;
  brings = λ d1 d2 small V L bodies run t f live u timely. brings d1 d2 small L run V bodies t f live u timely;
  slots = slots;
  reports = λ V L bodies t. (t.low, _, t.lowest, refl, told V L bodies t, t);
  accepts = λ d1 d2 small V L bodies run. accepts d1 d2 small L run V bodies;
  sends = λ V L bodies t n i b. t;
  hears = λ V L bodies t mk A st. t;
  loses = λ V L bodies t fs rs. t;
  sender_leaves = λ V L bodies t. t;
  idles = λ L bodies t live c st. subst (λ V. Tied V (ticked c st L) bodies) (still_new c) (slots new L bodies t live c st);
  least = λ d1 d2 small L run. least_not_got d1 d2 small L run;
}
