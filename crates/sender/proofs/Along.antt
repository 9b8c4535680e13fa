-- The first place along a list or a range that passes a test, as a chain finds it.
use Rattle.std.proofs.Common.{◌≡◌, ℕ, zero, suc, ◌+◌, ◌<◌, Bool, true, false, cond, not, ◌||◌, ltb, List, [], ◌∷◌, length, get_or, Some, None, MatchOption, sym, refl, ap, ◌∙◌, subst, ⊎_elim, arith}
use Rattle.std.specs.List.{prefix_len, position_or_len, position, range_with_len, list_any}
use Rattle.std.proofs.lemmas.Bool.{cases_lt, cond_both, ltb-true, ltb-false, lt-ltb, le-ltb}
use Rattle.rules.specs.Sending.{first}
use Rattle.rules.proofs.Lists.{first_most}

-- along a list: q fails as long as p passes
module _ {A : Type 0} (q p : A → Bool) (d : A) (apart : (x : A) → q x ≡ not (p x)) where
  one_more : (b : Bool) (m n : ℕ) → m ≡ n → cond (not b) 0 (suc m) ≡ cond b (1 + n) 0
  one_more true m n e = omega arith
  one_more false m n e = refl

  along : (xs : List A) → first (length xs) (λ k. q (get_or xs k d)) ≡ prefix_len p xs
  along [] = refl
  along (x ∷ xs) =
      ap (λ b. cond b 0 (suc (first (length xs) (λ k. q (get_or xs k d))))) (apart x)
      ∙ one_more (p x) (first (length xs) (λ k. q (get_or xs k d))) (prefix_len p xs) (along xs)

  pub first_along : (n : ℕ) (xs : List A) → length xs ≡ n → first n (λ k. q (get_or xs k d)) ≡ prefix_len p xs
  first_along n xs e = subst (λ m. first m (λ k. q (get_or xs k d)) ≡ prefix_len p xs) e (along xs)

not_twice : (b : Bool) → b ≡ not (not b)
not_twice true = refl
not_twice false = refl

pub found_along : {A : Type 0} (q : A → Bool) (d : A) (n : ℕ) (xs : List A) → length xs ≡ n
    → MatchOption (position q xs) (first n (λ k. q (get_or xs k d)) ≡ n) (λ i. (i < n) × (i ≡ first n (λ k. q (get_or xs k d))))
found_along q d n xs e =
    let f : ℕ → Bool = λ k. q (get_or xs k d) in
    let i : ℕ = position_or_len q xs in
    let same : first n f ≡ i = first_along q (λ x. not (q x)) d (λ x. not_twice (q x)) n xs e in
    let most = first_most n f in
    cond_both (ltb i (length xs)) (Some i) None (λ o. MatchOption o (first n f ≡ n) (λ i. (i < n) × (i ≡ first n f)))
    (λ t. let l = ltb-true i (length xs) t in ((omega arith), sym same))
    (λ t. let g = ltb-false i (length xs) t in omega arith)

-- some place passes
within : (b r : Bool) (m n : ℕ) → r ≡ ltb m n → (b || r) ≡ ltb (cond b 0 (suc m)) (suc n)
within true r m n e = sym (lt-ltb 0 (suc n) (omega arith))
within false r m n e =
    e
    ∙ ⊎_elim (λ l. lt-ltb m n l ∙ sym (lt-ltb (suc m) (suc n) (omega arith))) (λ g. le-ltb m n g ∙ sym (le-ltb (suc m) (suc n) (omega arith))) (cases_lt m n)

any_from : (f g : ℕ → Bool) (a n : ℕ) → ((k : ℕ) → g k ≡ f (a + k)) → list_any f (range_with_len a n) ≡ ltb (first n g) n
any_from f g a zero same = refl
any_from f g a (suc n) same =
    let here : f a ≡ g 0 = ap f (omega arith) ∙ sym (same 0) in
    ap (λ b. b || list_any f (range_with_len (a + 1) n)) here
    ∙ within (g 0) _ (first n (λ k. g (suc k))) n (any_from f (λ k. g (suc k)) (a + 1) n (λ k. same (suc k) ∙ ap f (omega arith)))

pub any_is : (f : ℕ → Bool) (n : ℕ) → list_any f (range_with_len 0 n) ≡ ltb (first n f) n
any_is f n = any_from f f 0 n (λ k. ap f (omega arith))
