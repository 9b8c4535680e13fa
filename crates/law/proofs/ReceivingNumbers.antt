-- A data frame that comes in time: its number is awaited exactly if it is not received yet, and then R and the flags move with the ledger.
use Rattle.std.proofs.Common.{◌≡◌, ℕ, zero, suc, ◌+◌, ◌-◌, ◌%◌, ◌<◌, ◌≤◌, Bool, true, false, not, ◌&&◌, ltb, List, length, get_or, set, sym, refl, ap, ◌∙◌, subst, ⊎_elim, arith}
use Rattle.std.proofs.lemmas.List.{length-set, get_or-set_same, get_or-set_other}
use Rattle.std.proofs.lemmas.Bool.{cases_lt, both_ways, and_left, lt-ltb, le-ltb}
use Rattle.frame.specs.Numbers.{distance}
use Rattle.rules.specs.Members.{Among}
use Rattle.law.specs.Ledger.{Frame, Ledger, put}
use Rattle.law.specs.Sound.{Sound}
use Rattle.law.proofs.Base.{put_elim}
use Rattle.law.proofs.Modulo.{awaited_by_rest}
use Rattle.rules.specs.Receiving.{Receiving, window, awaited, front, received}
use Rattle.law.specs.ReceivingTie.{Tied}
use Rattle.law.proofs.ReceivingWindow.{moved_below, moved_stops, moved_length, moved_flags}

module _ (d1 d2 : ℕ) (L : Ledger) (s : Sound d1 d2 L) (V : Receiving) (bodies : ℕ → List ℕ) (t : Tied V L bodies) where
  window_is : (k : ℕ) → k < 9 → get_or (window V) k false ≡ L.rx.got (t.low + k)
  window_is zero l = sym t.lowest.1 ∙ ap L.rx.got (omega arith)
  window_is (suc k) l = t.flags k (omega arith) ∙ ap L.rx.got (omega arith)

  module _ (f : Frame) (u : Among f L.frames) (timely : L.clock ≤ f.slot + d1) where
    abbrev dist : ℕ
    dist = distance V.oldest (f.number % 256)

    by_rest : (t.low ≤ f.number → (dist ≡ f.number - t.low) × (dist ≤ 8)) × (f.number < t.low → 231 ≤ dist)
    by_rest =
        let fl = s.flags t.low t.lowest in
        let n = s.near_frames f u timely in
        let e : dist ≡ distance (t.low % 256) (f.number % 256) = ap (λ o. distance o (f.number % 256)) t.oldest in
        let r = awaited_by_rest L.tx.oldest L.tx.used t.low f.number fl.0 fl.1 s.window.1 n.0 n.1 in
        (λ k. (e ∙ (r.0 k).0, subst (λ x. x ≤ 8) (sym e) (r.0 k).1), λ k. subst (λ x. 231 ≤ x) (sym e) (r.1 k))

    pub awaited_is : awaited V (f.number % 256) ≡ not (L.rx.got f.number)
    awaited_is =
        ⊎_elim
        (λ k.
        let g = t.lowest.0 f.number k in
        let far = by_rest.1 k in
        and_left (ltb dist 9) (not (get_or (window V) dist false)) (le-ltb dist 9 (omega arith)) ∙ sym (ap not g))
        (λ k.
        let x = by_rest.0 k in
        let near = x.1 in
        let at = x.0 in
        ap (λ b. b && not (get_or (window V) dist false)) (lt-ltb dist 9 (omega arith)) ∙ ap not (window_is dist (omega arith) ∙ ap L.rx.got (omega arith)))
        (cases_lt f.number t.low)

    module _ (a : L.rx.got f.number ≡ false) where
      from_low : t.low ≤ f.number
      from_low = ⊎_elim (λ k. absurd (both_ways _ a (t.lowest.0 f.number k))) (λ k. k) (cases_lt f.number t.low)

      abbrev marks : List Bool
      marks = set (window V) dist true

      abbrev got : ℕ → Bool
      got = put L.rx.got f.number true

      nine : length marks ≡ 9
      nine = length-set (window V) dist true ∙ ap suc t.eight

      same : (k : ℕ) → k < 9 → get_or marks k false ≡ got (t.low + k)
      same k l =
          let x = by_rest.0 from_low in
          let at = x.0 in
          let lo = from_low in
          put_elim L.rx.got f.number true (t.low + k) (λ y. get_or marks k false ≡ y)
          (λ e.
          let z : dist ≡ k = omega arith in
          ap (λ j. get_or marks j false) (sym z) ∙ get_or-set_same (window V) dist true false (let w = t.eight in omega (arith, x.1)))
          (λ e. get_or-set_other (window V) dist k true false (λ z. e (omega arith)) ∙ window_is k l)

      near : (n : ℕ) → got n ≡ true → n ≤ t.low + 8
      near n =
          put_elim L.rx.got f.number true n (λ y. y ≡ true → n ≤ t.low + 8)
          (λ e _. let z = (s.near_frames f u timely).0 in let w = s.window.1 in let v = (s.flags t.low t.lowest).0 in omega arith)
          (λ _ g. (s.flags t.low t.lowest).2 n g)

      below : (n : ℕ) → n < t.low → got n ≡ true
      below n l = put_elim L.rx.got f.number true n (λ y. y ≡ true) (λ _. refl) (λ _. t.lowest.0 n l)

      pub low : ℕ
      low = t.low + front marks

      pub low_below : (n : ℕ) → n < low → got n ≡ true
      unfolding low
      low_below = moved_below got t.low marks nine same near below

      pub low_stops : got low ≡ false
      unfolding low
      low_stops = moved_stops got t.low marks nine same near below

      pub oldest_is : (received (f.number % 256) V).oldest ≡ low % 256
      unfolding low
      oldest_is = let e = t.oldest in omega arith

      pub eight_is : length (received (f.number % 256) V).flags ≡ 8
      eight_is = moved_length got t.low marks nine same near below

      pub flags_are : (i : ℕ) → i < 8 → get_or (received (f.number % 256) V).flags i false ≡ got (low + 1 + i)
      unfolding low
      flags_are = moved_flags got t.low marks nine same near below
