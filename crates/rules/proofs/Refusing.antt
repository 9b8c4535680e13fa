-- The test of a report decides whether the rule refuses it.
use Rattle.std.proofs.Common.{◌≡◌, ℕ, ◌+◌, ◌≤◌, Bool, true, not, ◌&&◌, inl, inr, ⊎_elim, arith}
use Rattle.std.proofs.lemmas.Bool.{cases_lt, both_ways, not-true, not_from_false, and_parts, and_from, or_cases, or_left, or_right, ltb-true, lt-ltb, leb-true}
use Rattle.rules.specs.Reports.{astray, Decided, TestDecides}
use Rattle.rules.specs.Sending.{Sending, gap, told, was_sent, mark}
use Rattle.rules.proofs.Lists.{first_passes, first_least}

-- a report tells of no entry further than eight behind its R
told_near : (d : ℕ) (flag : ℕ → Bool) (k : ℕ) → told d flag k ≡ true → k ≤ d + 8
told_near d flag k t =
    ⊎_elim
    (λ l. let h = ltb-true k d l in omega arith)
    (λ m. let n = (and_parts _ _ (and_parts _ _ m).1).0 in leb-true k (d + 8) n)
    (or_cases _ _ t)

decided : (R : ℕ) (flag : ℕ → Bool) (S : Sending) → Decided R flag S
decided R flag S = record {
  refused = λ e.
      ⊎_elim
      (λ far. inl (ltb-true 9 (gap R S) far))
      (λ near.
      let p = and_parts _ _ (first_passes 18 (λ k. told (gap R S) flag k && not (was_sent (mark S k))) (ltb-true (astray R flag S) 18 near)) in
      inr (astray R flag S, p.0, not-true _ p.1))
      (or_cases _ _ e);
  taken = λ e r.
      ⊎_elim
      (λ far. both_ways _ e (or_left _ _ (lt-ltb 9 (gap R S) far)))
      (λ x.
      let wrong = and_from _ _ x.1 (not_from_false _ x.2) in
      let near = told_near (gap R S) flag x.0 x.1 in
      ⊎_elim
      (λ far. both_ways _ e (or_left _ _ (lt-ltb 9 (gap R S) far)))
      (λ close.
      ⊎_elim
      (λ found. both_ways _ e (or_right _ _ (lt-ltb (astray R flag S) 18 found)))
      (λ none. both_ways _ (first_least 18 (λ k. told (gap R S) flag k && not (was_sent (mark S k))) x.0 (omega arith)) wrong)
      (cases_lt (astray R flag S) 18))
      (cases_lt 9 (gap R S)))
      r;
}

pub test_decides : TestDecides
test_decides = decided
