-- A slot of the sending half is the slot of the ledger.
use Rattle.std.proofs.Common.{◌≡◌, ℕ, ◌+◌, ◌<◌, ◌≤◌, Bool, true, false, leb, ◌⊎◌, List, Some, None, sym, refl, ap, ◌∙◌, subst, inl, inr, ⊎_elim, arith}
use Rattle.std.proofs.lemmas.Bool.{cond_both, leb-true, leb-false}
use Rattle.rules.specs.Members.{Among}
use Rattle.law.specs.Ledger.{Status, Ledger}
use Rattle.law.specs.Steps.{Ages, ticked}
use Rattle.law.proofs.Base.{never}
use Rattle.law.proofs.Inv.{Inv}
use Rattle.rules.specs.declared.window.Mark.{Mark}
use Rattle.rules.specs.declared.window.Progress.{Progress}
use Rattle.rules.specs.declared.window.Standing.{Standing}
use Rattle.rules.specs.Sending.{Sending, blank, mark, packet, place, is_late, rested, aged, older, left, slotted, expired}
use Rattle.law.specs.SendingTie.{Carries, Entry, Gone, Holds, Under, Tied}
use Rattle.law.specs.SendingFollows.{SlotPassed}
use Rattle.rules.proofs.Lists.{get_or_map, places_have, places_only}
use Rattle.law.proofs.SendingMoves.{gone_not, one_pending}
use Rattle.rules.proofs.Lists.{inside}
use Rattle.std.proofs.lemmas.List.{length-map}

abbrev pub expire : Status → Bool → Status
expire Status.Pending true = Status.Expired
expire Status.Pending false = Status.Pending
expire Status.Confirmed late = Status.Confirmed
expire Status.Expired late = Status.Expired

expire_cases : (s : Status) (w : Bool) → (expire s w ≡ s) ⊎ ((s ≡ Status.Pending) × (expire s w ≡ Status.Expired))
expire_cases Status.Pending true = inr (refl, refl)
expire_cases Status.Pending false = inl refl
expire_cases Status.Confirmed w = inl refl
expire_cases Status.Expired w = inl refl

expire_pending : (s : Status) (w : Bool) → expire s w ≡ Status.Pending → (s ≡ Status.Pending) × (w ≡ false)
expire_pending Status.Pending true e = never (cc)
expire_pending Status.Pending false e = (refl, refl)
expire_pending Status.Confirmed w e = never (cc)
expire_pending Status.Expired w e = never (cc)

expire_late : (s : Status) (w : Bool) → s ≡ Status.Pending → expire s w ≡ Status.Expired → w ≡ true
expire_late s true p e = refl
expire_late s false p e = never (let z = ap (λ x. expire x false) p in cc)

late_since : (now : ℕ) (s : Standing) → is_late now s ≡ true → (since : ℕ) × (s ≡ Standing.Pending since) × (leb (since + 74) now ≡ true)
late_since now Standing.Free e = never (cc)
late_since now (Standing.Pending since) e = (since, refl, e)
late_since now (Standing.Resting until) e = never (cc)

module _ (d1 d2 : ℕ) (S : Sending) (L : Ledger) (bodies : ℕ → List ℕ) (t : Tied S L bodies) (v : Inv d1 d2 L) (c : ℕ) (later : L.clock ≤ c) where
  abbrev late : ℕ → Bool
  late i = leb ((L.tx.packet i).born + 74) c

  abbrev st : ℕ → Status
  st i = expire (L.tx.status i) (late i)

  abbrev L2 : Ledger
  L2 = ticked c st L

  ages : Ages L c st
  ages i l = (expire_cases _ _, λ live e. leb-false _ _ (expire_pending _ _ e).1)

  -- where a pending packet stands
  stands : (i p : ℕ) (octets : List ℕ) (bdus : List Progress) (s : Standing) → Under L.tx L.clock bodies p octets bdus s → i < L.tx.total → (L.tx.packet i).key ≡ p → L.tx.status i ≡ Status.Pending
      → s ≡ Standing.Pending (L.tx.packet i).born
  stands i p octets bdus Standing.Free h l k e = absurd (gone_not L.tx L.clock i (h i l k) e)
  stands i p octets bdus (Standing.Pending since) h l k e =
      let same = one_pending L.tx L.clock p h.0 i h.1 l k e in
      ap Standing.Pending (sym h.2.born ∙ ap (λ x. (L.tx.packet x).born) (sym same))
  stands i p octets bdus (Standing.Resting until) h l k e =
      let same = one_pending L.tx L.clock p h.0 i h.1 l k e in
      never (let x = h.2.status in let y = ap L.tx.status same in cc)

  gone_over : (j : ℕ) → Gone L.tx L.clock j → Gone L2.tx c j
  gone_over j = ⊎_elim (λ e. inl (ap (λ s. expire s (late j)) e)) (λ e. inr (ap (λ s. expire s (late j)) e.0, (let l = e.1 in omega arith)))

  holds_over : (p i : ℕ) → Holds L.tx L.clock p i → Holds L2.tx c p i
  holds_over p i h = record { known = h.known; key = h.key; others = λ j l k. ⊎_elim inl (λ x. inr (x.0, gone_over j x.1)) (h.others j l k) }

  -- what rests until u is free from u on
  under_rested : (p i : ℕ) (octets : List ℕ) (bdus : List Progress) (u : ℕ) → Holds L.tx L.clock p i → st i ≡ Status.Expired → (L.tx.packet i).born + 149 ≡ u → Under L2.tx c bodies p octets bdus (rested c u)
  under_rested p i octets bdus u h e b =
      cond_both (leb u c) Standing.Free (Standing.Resting u) (Under L2.tx c bodies p octets bdus)
      (λ f j l k. ⊎_elim (λ x. subst (Gone L2.tx c) (sym x) (inr (e, (let y = leb-true u c f in omega arith)))) (λ x. gone_over j x.1) (h.others j l k))
      (λ f. (i, holds_over p i h, record { status = e; born = b; later = leb-false u c f }))

  under_aged : (p : ℕ) (octets : List ℕ) (bdus : List Progress) (s : Standing) → Under L.tx L.clock bodies p octets bdus s → Under L2.tx c bodies p octets bdus (aged c s)
  under_aged p octets bdus Standing.Free h = λ j l k. gone_over j (h j l k)
  under_aged p octets bdus (Standing.Pending since) h =
      let i : ℕ = h.0 in
      let w = h.2 in
      let at : late i ≡ leb (since + 74) c = ap (λ x. leb (x + 74) c) w.born in
      cond_both (leb (since + 74) c) (rested c (since + 149)) (Standing.Pending since) (Under L2.tx c bodies p octets bdus)
      (λ f. under_rested p i octets bdus (since + 149) h.1 (ap (λ s. expire s (late i)) w.status ∙ ap (expire Status.Pending) (at ∙ f)) (ap (λ x. x + 149) w.born))
      (λ f. (i, holds_over p i h.1, record { status = ap (λ s. expire s (late i)) w.status ∙ ap (expire Status.Pending) (at ∙ f); born = w.born; body = w.body; size = w.size; room = w.room; parts = w.parts }))
  under_aged p octets bdus (Standing.Resting until) h = under_rested p h.0 octets bdus until h.1 (ap (λ s. expire s (late h.0)) h.2.status) h.2.born

  entry_left : (n : ℕ) (m : Mark) → Entry L.tx n m → Entry L2.tx n (left c S.packets m)
  entry_left n Mark.Unused h = h
  entry_left n (Mark.OnItsWay s None) h = (h.0, h.1, h.2, λ e. h.3 (expire_pending _ _ e).0)
  entry_left n (Mark.OnItsWay s (Some b)) h =
      let i : ℕ = (L.tx.sent n).packet in
      let k = (v.numbers.uses n h.0).known in
      let at : is_late c (packet S (place b)).standing ≡ late i = ap (is_late c) (stands i (place b) _ _ _ (t.under (place b)) k h.3.1 h.3.0) in (
        h.0,
        h.1,
        h.2,
        cond_both (is_late c (packet S (place b)).standing) None (Some b) (Carries L2.tx (L.tx.sent n))
            (λ f e. never (let x = (expire_pending (L.tx.status i) (late i) e).1 in cc))
            (λ f. (ap (λ s. expire s (late i)) h.3.0 ∙ ap (expire Status.Pending) (sym at ∙ f), h.3.1, h.3.2)),
      )
  entry_left n Mark.Acknowledged h = h
  entry_left n Mark.Returned h = h

  tied : Tied (slotted c S) L2 bodies
  tied = record {
    live = t.live;
    oldest = t.oldest;
    nine = length-map S.window (left c S.packets) ∙ t.nine;
    sixteen = length-map S.packets (older c) ∙ t.sixteen;
    entries = λ k. subst (Entry L2.tx (L.tx.oldest + k)) (sym (get_or_map (left c S.packets) S.window Mark.Unused k)) (entry_left (L.tx.oldest + k) (mark S k) (t.entries k));
    under = λ p.
        subst (λ x. Under L2.tx c bodies p x.octets x.bdus x.standing) (sym (get_or_map (older c) S.packets blank p))
        (under_aged p _ _ (packet S p).standing (t.under p));
  }

  pub slot_passed : SlotPassed S L bodies c
  slot_passed = record {
    status = st;
    ages = ages;
    tied = tied;
    lists = record {
      only = λ p a.
          let x = places_only (λ o. is_late c o.standing) 0 S.packets p a in
          let w : is_late c (packet S p).standing ≡ true = ap (λ k. is_late c (packet S k).standing) {x = p} {y = x.0} (let e = x.1 in omega arith) ∙ x.3 in
          let y = late_since c _ w in
          let u = subst (Under L.tx L.clock bodies p (packet S p).octets (packet S p).bdus) y.1 (t.under p) in
          (u.0, u.1.known, u.1.key, u.2.status, ap (λ s. expire s (late u.0)) u.2.status ∙ ap (expire Status.Pending) (ap (λ b. leb (b + 74) c) u.2.born ∙ y.2));
      all = λ i l e f.
          let p : ℕ = (L.tx.packet i).key in
          let s = stands i p _ _ _ (t.under p) l refl e in
          subst (λ k. Among k (expired c S)) {x = 0 + p} {y = p} (omega arith)
          (places_have (λ o. is_late c o.standing) 0 S.packets p (inside S.packets p _ s) (ap (is_late c) s ∙ expire_late _ _ e f));
    };
  }
