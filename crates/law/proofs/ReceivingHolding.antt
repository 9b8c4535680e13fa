-- A data frame that comes in time under an awaited number: its BDU does not contradict its place, the place with it is the ledger's, and the packet is whole exactly if the ledger says so.
use Rattle.std.proofs.Common.{◌≡◌, ℕ, suc, ◌+◌, ◌-◌, ◌*◌, ◌<◌, ◌≤◌, false, not, ltb, List, length, get_or, take, drop, is_some, Some, None, Option, sym, refl, ap, ◌∙◌, inl, inr, ⊎_elim, arith}
use Rattle.std.proofs.lemmas.List.{length-set, length-drop, length-take-le, get_or-set_same, get_or-set_other, get_or-drop, get_or-take, take_all}
use Rattle.std.proofs.lemmas.Bool.{cases_Bool, cases_eq, and_left, and_right, or_from, lt-ltb, le-ltb, ltb-true, ltb-false, cond-true, cond-false}
use Rattle.law.specs.Ledger.{Cell, Frame, Ledger}
use Rattle.law.specs.Ledger as ledger
use Rattle.law.specs.Steps.{Comes, Opens, Full, with_frame}
use Rattle.law.specs.Sound.{Taken, Sound}
use Rattle.law.proofs.Base.{never, put_elim, put_at, put_off}
use Rattle.law.proofs.Taking.{cell_cases}
use Rattle.rules.specs.Receiving.{Bdu, Place, any, past_last, contradicts, added, gathered, packet}
use Rattle.law.specs.ReceivingTie.{Body, shown, SamePlace, carried}
use Rattle.law.proofs.ReceivingPieces.{option_cases, any_one, any_none, not_any, gathered_all, gathered_held, shown_none}

module _ (d1 d2 : ℕ) (L : Ledger) (s : Sound d1 d2 L) (bodies : ℕ → List ℕ) (f : Frame) (c : Comes d1 L f) (tk : Taken L f) (body : Body (L.tx.packet f.packet) (bodies f.packet))
    (P : Place) (sp : SamePlace L bodies P (L.rx.place (L.tx.packet f.packet).key)) where
  abbrev i : ℕ
  i = f.packet

  abbrev size : ℕ
  size = (L.tx.packet f.packet).size

  abbrev at : ledger.Place
  at = L.rx.place (L.tx.packet f.packet).key

  abbrev u : Bdu
  u = carried L bodies f

  few : size ≤ 8
  few = let m = body.most in let e = body.size in omega arith

  of_it : (b j : ℕ) → at.holds b ≡ Cell.From j → j ≡ i
  of_it b j e = ⊎_elim (λ z. never (cc)) (λ z. cc) (tk.pure b)

  of_it_now : (b j : ℕ) → with_frame L f b ≡ Cell.From j → j ≡ i
  of_it_now b j = put_elim at.holds f.part (Cell.From i) b (λ x. x ≡ Cell.From j → j ≡ i) (λ _ e. cc) (λ _ e. of_it b j e)

  inside : (b j : ℕ) → at.holds b ≡ Cell.From j → b < size
  inside b j e = tk.inside b (e ∙ ap Cell.From (of_it b j e))

  -- nothing is held past the last piece
  none_from : (b : ℕ) → size ≤ b → b < 8 → get_or P.pieces b None ≡ None
  none_from b l k = sp.pieces b k ∙ ⊎_elim (λ e. ap (shown bodies b) e) (λ x. absurd (let z = inside b x.0 x.1 in omega arith)) (cell_cases (at.holds b))

  -- the last BDU, if held, is that of its packet
  last_size : (l : ℕ) → P.last ≡ Some l → (suc l ≡ size) × (at.holds l ≡ Cell.From i)
  last_size l e =
      let x = sp.is_last l e in
      let j = of_it l x.0 x.1 in
      (x.2 ∙ ap (λ k. (L.tx.packet k).size) j, x.1 ∙ ap Cell.From j)

  not_past : past_last P.last u ≡ false
  not_past =
      ⊎_elim
      (λ e. ap (λ o. past_last o u) e)
      (λ x.
      let z = last_size x.0 x.1 in
      let k = tk.piece in
      let l = z.0 in
      let apart : f.part ≡ x.0 → ⊥ = λ e. never (let y = ap at.holds e in let h = tk.apart in let w = z.1 in cc) in
      let less : f.part < x.0 = ⊎_elim (λ e. absurd (apart e)) (λ e. omega arith) (cases_eq f.part x.0) in
      ap (λ o. past_last o u) x.1 ∙ or_from (ltb x.0 f.part) (not u.more) (le-ltb x.0 f.part (omega arith)) (ap not (lt-ltb (suc f.part) size (omega arith))))
      (option_cases P.last)

  pub no_contradiction : contradicts P u ≡ false
  no_contradiction =
      let k = tk.piece in
      let n = few in
      or_from (is_some (get_or P.pieces f.part None)) _
      (ap is_some (sp.pieces f.part (omega arith) ∙ ap (shown bodies f.part) tk.apart))
      (or_from (past_last P.last u) _ not_past
      (⊎_elim
      (λ e. and_left (not u.more) _ (ap not e))
      (λ e.
      let z = ltb-false (suc f.part) size e in
      let m = length-drop (suc f.part) P.pieces in
      let w = sp.eight in
      and_right (not u.more) _ (any_none (drop (suc f.part) P.pieces) (λ d l. get_or-drop (suc f.part) P.pieces d None ∙ none_from (suc f.part + d) (omega arith) (omega arith))))
      (cases_Bool u.more)))

  module _ (now : ℕ) where
    abbrev P' : Place
    P' = added P u now

    pub added_same : SamePlace L bodies P' (record { since = P'.opened; holds = with_frame L f })
    added_same =
        let k = tk.piece in
        let n = few in
        let w = sp.eight in
        record {
          eight = length-set P.pieces f.part (Some u.octets) ∙ sp.eight;
          pieces = λ b l.
              put_elim at.holds f.part (Cell.From i) b (λ x. get_or P'.pieces b None ≡ shown bodies b x)
              (λ e. rw e (get_or-set_same P.pieces f.part (Some u.octets) None (omega arith)))
              (λ e. get_or-set_other P.pieces f.part b (Some u.octets) None e ∙ sp.pieces b l);
          opened = λ b j e. refl;
          last = λ b j e z.
              let o = of_it_now b j e in
              let y : suc b ≡ size = z ∙ ap (λ x. (L.tx.packet x).size) o in
              ⊎_elim
              (λ m.
              let l = ltb-true (suc f.part) size m in
              cond-true u.more P.last (Some f.part) m ∙ sp.last b j (sym (put_off at.holds f.part (Cell.From i) b (λ x. omega arith)) ∙ e) z)
              (λ m. let l = ltb-false (suc f.part) size m in cond-false u.more P.last (Some f.part) m ∙ ap Some (omega arith))
              (cases_Bool u.more);
          is_last = λ b e.
              ⊎_elim
              (λ m.
              let x = last_size b (sym (cond-true u.more P.last (Some f.part) m) ∙ e) in
              (i, put_elim at.holds f.part (Cell.From i) b (λ y. y ≡ Cell.From i) (λ _. refl) (λ _. x.1), x.0))
              (λ m.
              let l = ltb-false (suc f.part) size m in
              let y : f.part ≡ b = let z = cond-false u.more P.last (Some f.part) m in cc in
              (i, put_at at.holds f.part (Cell.From i) b (sym y), omega arith))
              (cases_Bool u.more);
        }

    pub opens : now ≡ L.clock → Opens L f P'.opened
    opens clock =
        ⊎_elim
        (λ e.
        let x = any_one P.pieces e in
        let w = sp.eight in
        inr
        (⊎_elim
        (λ z. absurd (x.2 (sp.pieces x.0 (let l = x.1 in omega arith) ∙ ap (shown bodies x.0) z)))
        (λ z. ((x.0, z.0, z.1), cond-true (any P.pieces) P.opened now e ∙ sp.opened x.0 z.0 z.1))
        (cell_cases (at.holds x.0))))
        (λ e.
        inl (
          λ b.
              ⊎_elim (λ z. z)
              (λ z. let l = inside b z.0 z.1 in let n = few in shown_none bodies b (at.holds b) (sym (sp.pieces b (omega arith)) ∙ not_any P.pieces e b))
              (cell_cases (at.holds b)),
          cond-false (any P.pieces) P.opened now e ∙ clock,
        ))
        (cases_Bool (any P.pieces))

    -- all pieces are there: the packet is what was accepted
    pub whole_if : Full L f → packet P' ≡ Some (bodies i)
    whole_if full =
        let k = tk.piece in
        let n = few in
        let z = added_same in
        let ps : List (Option (List ℕ)) = take size P'.pieces in
        let l : suc (size - 1) ≡ size = omega arith in
        let len : length ps ≡ size = length-take-le size P'.pieces (let w = z.eight in omega arith) in
        let last : P'.last ≡ Some (size - 1) = z.last (size - 1) i (s.whole f c full (size - 1) (omega arith)) l in
        let held : gathered ps ≡ Some (take (53 * length ps) (bodies i)) =
        gathered_all ps (bodies i) (λ d y. get_or-take size P'.pieces d None (omega arith) ∙ z.pieces d (omega arith) ∙ ap (shown bodies d) (s.whole f c full d (omega arith))) in
        ap (λ o. packet (record { opened = 0; pieces = P'.pieces; last = o })) last
        ∙ ap (λ x. gathered (take x P'.pieces)) l
        ∙ held
        ∙ ap Some (take_all (53 * length ps) (bodies i) (let m = body.size in omega arith))

    pub whole_only : (xs : List ℕ) → packet P' ≡ Some xs → Full L f
    whole_only xs e b l hole =
        let n = few in
        let z = added_same in
        ⊎_elim
        (λ y. never (let w = ap (λ o. packet (record { opened = 0; pieces = P'.pieces; last = o })) y in cc))
        (λ y.
        let x = z.is_last y.0 y.1 in
        let m : suc y.0 ≡ size = x.2 ∙ ap (λ j. (L.tx.packet j).size) (of_it_now y.0 x.0 x.1) in
        let len : length (take (suc y.0) P'.pieces) ≡ suc y.0 = length-take-le (suc y.0) P'.pieces (let w = z.eight in omega arith) in
        gathered_held (take (suc y.0) P'.pieces) xs (sym (ap (λ o. packet (record { opened = 0; pieces = P'.pieces; last = o })) y.1) ∙ e) b (omega arith)
        (get_or-take (suc y.0) P'.pieces b None (omega arith) ∙ z.pieces b (omega arith) ∙ ap (shown bodies b) hole))
        (option_cases P'.last)
