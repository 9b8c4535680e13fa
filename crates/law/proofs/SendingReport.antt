-- A report in time: what it tells, when it is refused, and the window and the packets as judged.
use Rattle.std.proofs.Common.{◌≡◌, ℕ, ◌+◌, ◌-◌, ◌<◌, ◌≤◌, Bool, true, false, ◌&&◌, ltb, leb, ◌⊎◌, List, length, Some, None, Option, sym, refl, ap, ◌∙◌, subst, inl, inr, ⊎_elim, arith}
use Rattle.std.proofs.lemmas.Bool.{cases_lt, or_cases, or_left, or_right, and_parts, and_from, ltb-true, leb-true, lt-ltb, le-leb}
use Rattle.rules.specs.Members.{Among}
use Rattle.law.specs.Ledger.{Status, Mark as Word, Sender, Report, Ledger, tells}
use Rattle.law.specs.Steps.{judged as weighed, after, marked}
use Rattle.law.specs.Sound.{Sound}
use Rattle.law.proofs.Base.{never, same_bool}
use Rattle.law.proofs.Inv.{Inv}
use Rattle.rules.specs.declared.window.BduKey.{BduKey}
use Rattle.rules.specs.declared.window.Mark.{Mark}
use Rattle.rules.specs.declared.window.Progress.{Progress}
use Rattle.rules.specs.declared.window.Standing.{Standing}
use Rattle.rules.specs.Sending.{Sending, mark, packet, place, gap, told, was_sent, Refused, is_old, judged, verdicts, credits}
use Rattle.law.specs.SendingTie.{Carries, Entry, Far, Holds, Under, Tied, Reads}
use Rattle.law.proofs.SendingMoves.{one_pending}
use Rattle.rules.proofs.Lists.{inside}
use Rattle.rules.proofs.Credit.{get_or_judge, length_judge, credit_keeps, credit_length, Carrier, Credited, credit_cases}

returned_or : (w : Word) → (w ≡ Word.Returned) ⊎ (w ≡ Word.Returned → ⊥)
returned_or Word.InFlight = inr (λ e. never (cc))
returned_or Word.Acked = inr (λ e. never (cc))
returned_or Word.Returned = inl refl

-- a report may not acknowledge it: it is unused or returned
entry_unsent : (T : Sender) (n : ℕ) (m : Mark) → was_sent m ≡ false → Entry T n m → n < T.used → (T.sent n).mark ≡ Word.Returned
entry_unsent T n Mark.Unused w h l = absurd (omega arith)
entry_unsent T n (Mark.OnItsWay s b) w h l = never (cc)
entry_unsent T n Mark.Acknowledged w h l = never (cc)
entry_unsent T n Mark.Returned w h l = h.1

-- a number in flight of a pending packet has its BDU in the window
entry_flies : (T : Sender) (n : ℕ) (m : Mark) → Entry T n m → n < T.used → (T.sent n).mark ≡ Word.InFlight → T.status (T.sent n).packet ≡ Status.Pending
    → (s : ℕ) × (b : BduKey) × (m ≡ Mark.OnItsWay s (Some b)) × ((T.sent n).slot ≡ s) × ((T.packet (T.sent n).packet).key ≡ place b) × ((T.sent n).part ≡ b.bsn)
entry_flies T n Mark.Unused h l w p = absurd (omega arith)
entry_flies T n (Mark.OnItsWay s (Some b)) h l w p = (s, b, refl, h.2, h.3.1, h.3.2)
entry_flies T n (Mark.OnItsWay s None) h l w p = absurd (h.3 p)
entry_flies T n Mark.Acknowledged h l w p = never (let z = h.1 in cc)
entry_flies T n Mark.Returned h l w p = never (let z = h.1 in cc)

module _ (d1 d2 : ℕ) (S : Sending) (L : Ledger) (bodies : ℕ → List ℕ) (t : Tied S L bodies) (v : Inv d1 d2 L) (z : Sound d1 d2 L)
    (r : Report) (R : ℕ) (flag : ℕ → Bool) (reads : Reads r R flag) (among : Among r L.reports) (timely : L.clock ≤ r.slot + d2) where
  pub refused_low : r.low < L.tx.oldest → Refused R flag S
  refused_low l = inl (let n = z.near_reports r among timely in let w = z.window in let e = t.oldest in let f = reads.low in omega (arith, n.0, n.1, w.0, w.1))

  module _ (current : L.tx.oldest ≤ r.low) where
    pub gap_is : gap R S ≡ r.low - L.tx.oldest
    gap_is = let n = z.near_reports r among timely in let w = z.window in let e = t.oldest in let f = reads.low in omega (arith, n.0, n.1, w.0, w.1)

    -- the entry k is told exactly if its number is
    pub told_is : (k : ℕ) → told (gap R S) flag k ≡ tells r (L.tx.oldest + k)
    told_is k =
        let d : ℕ = r.low - L.tx.oldest in
        let n : ℕ = L.tx.oldest + k in
        ap (λ x. told x flag k) gap_is ∙
        same_bool (told d flag k) (tells r n)
        (λ h. ⊎_elim
        (λ a. or_left (ltb n r.low) (r.flag n) (lt-ltb n r.low (let x = ltb-true k d a in omega arith)))
        (λ a.
        let b = and_parts (ltb d k) (leb k (d + 8) && flag (k - d - 1)) a in
        let c = and_parts (leb k (d + 8)) (flag (k - d - 1)) b.1 in
        let x = ltb-true d k b.0 in
        let y = leb-true k (d + 8) c.0 in
        or_right (ltb n r.low) (r.flag n) (ap r.flag {x = n} {y = r.low + 1 + (k - d - 1)} (omega arith) ∙ sym (reads.flags (k - d - 1) (omega arith)) ∙ c.1))
        (or_cases (ltb k d) (ltb d k && (leb k (d + 8) && flag (k - d - 1))) h))
        (λ h. ⊎_elim
        (λ a. or_left (ltb k d) _ (lt-ltb k d (let x = ltb-true n r.low a in omega arith)))
        (λ a.
        let x = reads.only n a in
        let up : r.low < n = x.0 in
        let down : n ≤ r.low + 8 = x.1 in
        or_right (ltb k d) _
        (and_from (ltb d k) _ (lt-ltb d k (omega arith))
        (and_from (leb k (d + 8)) _ (le-leb k (d + 8) (omega arith)) (reads.flags (k - d - 1) (omega arith) ∙ ap r.flag {x = r.low + 1 + (k - d - 1)} {y = n} (omega arith) ∙ a))))
        (or_cases (ltb n r.low) (r.flag n) h))

    pub not_refused : Refused R flag S → ⊥
    not_refused =
        ⊎_elim
        (λ far. let n = z.near_reports r among timely in let w = z.window in let e = gap_is in omega (arith, n.0, n.1, w.0, w.1))
        (λ x.
        let h = z.honest r among timely (L.tx.oldest + x.0) (sym (told_is x.0) ∙ x.1) in
        h.2 (entry_unsent L.tx _ _ x.2 (t.entries x.0) h.1))

    module _ (now : ℕ) (clock : now ≡ L.clock) where
      -- the ledger's word on the number of the entry k
      after_is : (k : ℕ) → after L r (L.tx.oldest + k) ≡ weighed (L.tx.sent (L.tx.oldest + k)).mark (told (gap R S) flag k) (leb ((L.tx.sent (L.tx.oldest + k)).slot + 2) now)
      after_is k =
          let n : ℕ = L.tx.oldest + k in
          ap (λ x. weighed (L.tx.sent n).mark x (leb ((L.tx.sent n).slot + 2) L.clock)) (sym (told_is k))
          ∙ ap (λ x. weighed (L.tx.sent n).mark (told (gap R S) flag k) (leb ((L.tx.sent n).slot + 2) x)) (sym clock)

      -- the ledger with the report's marks, and all else as it was
      abbrev pub L1 : Ledger
      L1 = marked (after L r) L.tx.oldest L.tx.status L

      carries_over : (n : ℕ) (b : Option BduKey) → Carries L.tx (L.tx.sent n) b → Carries L1.tx (L1.tx.sent n) b
      carries_over n (Some b) h = h
      carries_over n None h = h

      on_way : (n s : ℕ) (b : Option BduKey) (tell old : Bool) → after L r n ≡ weighed Word.InFlight tell old → Entry L.tx n (Mark.OnItsWay s b) → Entry L1.tx n (judged (Mark.OnItsWay s b) tell old)
      on_way n s b true old e h = (h.0, e)
      on_way n s b false true e h = (h.0, e)
      on_way n s b false false e h = (h.0, e, h.2, carries_over n b h.3)

      entry_judged : (n : ℕ) (m : Mark) (tell : Bool) → after L r n ≡ weighed (L.tx.sent n).mark tell (leb ((L.tx.sent n).slot + 2) now) → Entry L.tx n m → Entry L1.tx n (judged m tell (is_old now m))
      entry_judged n Mark.Unused tell e h = h
      entry_judged n (Mark.OnItsWay s b) tell e h =
          on_way n s b tell (leb (s + 2) now) (e ∙ ap (λ w. weighed w tell (leb ((L.tx.sent n).slot + 2) now)) h.1 ∙ ap (λ x. weighed Word.InFlight tell (leb (x + 2) now)) h.2) h
      entry_judged n Mark.Acknowledged tell e h = (h.0, e ∙ ap (λ w. weighed w tell (leb ((L.tx.sent n).slot + 2) now)) h.1)
      entry_judged n Mark.Returned tell e h = (h.0, e ∙ ap (λ w. weighed w tell (leb ((L.tx.sent n).slot + 2) now)) h.1)

      -- the ledger's word on an entry that has a BDU
      word_is : (k s : ℕ) (b : BduKey) → mark S k ≡ Mark.OnItsWay s (Some b) → (L.tx.sent (L.tx.oldest + k)).mark ≡ Word.InFlight → (L.tx.sent (L.tx.oldest + k)).slot ≡ s
          → after L r (L.tx.oldest + k) ≡ weighed Word.InFlight (told (gap R S) flag k) (is_old now (mark S k))
      word_is k s b m w l =
          let n : ℕ = L.tx.oldest + k in
          after_is k ∙ ap (λ x. weighed x (told (gap R S) flag k) (leb ((L.tx.sent n).slot + 2) now)) w
          ∙ ap (weighed Word.InFlight (told (gap R S) flag k)) (ap (λ x. leb (x + 2) now) l ∙ sym (ap (is_old now) m))

      module _ (p i d : ℕ) (holds : Holds L.tx L.clock p i) (pending : L.tx.status i ≡ Status.Pending) where
        -- no entry that has the BDU changes
        far_still : ((k : ℕ) → Carrier (mark S k) p d → (told (gap R S) flag k ≡ false) × (is_old now (mark S k) ≡ false))
            → (w : Progress) → Far L.tx.used L.tx.sent i d w → Far L.tx.used L1.tx.sent i d w
        far_still none Progress.Waiting h = λ n l a b. ap (λ w. weighed w (tells r n) (leb ((L.tx.sent n).slot + 2) L.clock)) (h n l a b)
        far_still none Progress.OnItsWay h =
            let n : ℕ = h.0 in
            let up : L.tx.oldest ≤ n = ⊎_elim (λ b. never (let x = v.numbers.below n b in let y = h.4 in cc)) (λ u. u) (cases_lt n L.tx.oldest) in
            let k : ℕ = n - L.tx.oldest in
            let same : n ≡ L.tx.oldest + k = omega arith in
            let word : (L.tx.sent (L.tx.oldest + k)).mark ≡ Word.InFlight = ap (λ x. (L.tx.sent x).mark) (sym same) ∙ h.4 in
            let mine : (L.tx.sent (L.tx.oldest + k)).packet ≡ i = ap (λ x. (L.tx.sent x).packet) (sym same) ∙ h.2 in
            let f = entry_flies L.tx (L.tx.oldest + k) (mark S k) (t.entries k) (let x = h.1 in omega arith) word (ap L.tx.status mine ∙ pending) in
            let q = none k (f.0, f.1, f.2, sym f.4 ∙ ap (λ x. (L.tx.packet x).key) mine ∙ holds.key, sym f.5 ∙ ap (λ x. (L.tx.sent x).part) (sym same) ∙ h.3) in
            (n, h.1, h.2, h.3, ap (after L r) same ∙ word_is k f.0 f.1 f.2 word f.3 ∙ ap (λ x. weighed Word.InFlight x (is_old now (mark S k))) q.0 ∙ ap (weighed Word.InFlight false) q.1)
        far_still none Progress.Acknowledged h = (h.0, h.1, h.2, h.3, ap (λ w. weighed w (tells r h.0) (leb ((L.tx.sent h.0).slot + 2) L.clock)) h.4)

        -- some entry that has it does
        far_changed : (k : ℕ) (w : Progress) → Credited (mark S k) (told (gap R S) flag k) (is_old now (mark S k)) p d w → Far L.tx.used L1.tx.sent i d w
        far_changed k w c =
            let n : ℕ = L.tx.oldest + k in
            let b : BduKey = c.0.1 in
            let x = subst (Entry L.tx n) c.0.2 (t.entries k) in
            let mine : (L.tx.sent n).packet ≡ i = one_pending L.tx L.clock p i _ holds (v.numbers.uses n x.0).known (x.3.1 ∙ c.0.3) x.3.0 in
            let part : (L.tx.sent n).part ≡ d = x.3.2 ∙ c.0.4 in
            let word = word_is k c.0.0 b c.0.2 x.1 x.2 in
            ⊎_elim
            (λ y. subst (Far L.tx.used L1.tx.sent i d) (sym y.1) (n, x.0, mine, part, word ∙ ap (λ u. weighed Word.InFlight u (is_old now (mark S k))) y.0))
            (λ y. subst (Far L.tx.used L1.tx.sent i d) (sym y.2)
            (λ m l e f. ⊎_elim
            (λ g. ap (λ u. weighed u (tells r m) (leb ((L.tx.sent m).slot + 2) L.clock)) g)
            (λ ne.
            let same = v.numbers.claims m n l x.0 (record { one = ne; two = λ g. never (let u = x.1 in cc); packet = e ∙ sym mine; part = f ∙ sym part }) in
            ap (after L r) same ∙ word ∙ ap (λ u. weighed Word.InFlight u (is_old now (mark S k))) y.0 ∙ ap (weighed Word.InFlight false) y.1)
            (returned_or (L.tx.sent m).mark)))
            c.1

      abbrev pub S1 : Sending
      S1 = record { oldest = S.oldest; window = verdicts R flag now S; packets = credits R flag now S; last = S.last }

      under_judged : (p : ℕ) (st : Standing) → (packet S p).standing ≡ st → Under L.tx L.clock bodies p (packet S p).octets (packet S p).bdus st
          → Under L1.tx L.clock bodies p (packet S p).octets (packet S1 p).bdus st
      under_judged p Standing.Free e h = h
      under_judged p (Standing.Pending since) e h =
          let w = h.2 in
          let room : length (packet S1 p).bdus ≡ length (packet S p).bdus = ap (λ f. f.room) (credit_keeps (told (gap R S) flag) now S.window S.packets p) in (
            h.0,
            h.1,
            record {
              status = w.status;
              born = w.born;
              body = w.body;
              size = w.size;
              room = omega (arith, w.room);
              parts = λ d l.
                  ⊎_elim
                  (λ x. subst (Far L.tx.used L1.tx.sent h.0 d) (sym x.0) (far_still p h.0 d h.1 w.status x.1 _ (w.parts d l)))
                  (λ x. far_changed p h.0 d h.1 w.status x.0 _ x.1)
                  (credit_cases (told (gap R S) flag) now S.window S.packets p d (inside S.packets p since e) (omega (arith, w.room)));
            },
          )
      under_judged p (Standing.Resting until) e h = h

      pub judged_tied : Tied S1 L1 bodies
      judged_tied = record {
        live = t.live;
        oldest = t.oldest;
        nine = length_judge (told (gap R S) flag) now S.window ∙ t.nine;
        sixteen = credit_length (told (gap R S) flag) now S.window S.packets ∙ t.sixteen;
        entries = λ k. subst (Entry L1.tx (L.tx.oldest + k)) (sym (get_or_judge (told (gap R S) flag) now S.window k)) (entry_judged _ (mark S k) _ (after_is k) (t.entries k));
        under = λ p.
            let keep = credit_keeps (told (gap R S) flag) now S.window S.packets p in
            subst (λ f. Under L1.tx L.clock bodies p f.octets (packet S1 p).bdus f.standing) (sym keep) (under_judged p _ refl (t.under p));
      }
