-- R and its flags after a number is received, and that some number is the least one not received.
use Rattle.std.proofs.Common.{◌≡◌, ℕ, zero, suc, ◌+◌, ◌-◌, ◌<◌, ◌≤◌, Bool, true, false, List, [], ◌∷◌, map, length, get_or, sym, refl, ap, ◌∙◌, subst, ⊎_elim, arith}
use Rattle.std.proofs.lemmas.Bool.{cases_Bool, cases_lt, cases_eq}
use Rattle.std.proofs.lemmas.List.{get_or_past}
use Rattle.std.proofs.lemmas.List.FromFn.{length-map-range_with_len, get_or-map-range_with_len}
use Rattle.std.specs.List.{range_with_len}
use Rattle.rules.specs.Receiving.{front}

pub false_from : (b : Bool) → (b ≡ true → ⊥) → b ≡ false
false_from b h = ⊎_elim (λ e. absurd (h e)) (λ e. e) (cases_Bool b)

-- the numbers below `front w` are received, the next one is not
pub front_below : (w : List Bool) (k : ℕ) → k < front w → get_or w k false ≡ true
front_below [] k h = absurd (omega arith)
front_below (true ∷ w) zero h = refl
front_below (true ∷ w) (suc k) h = front_below w k (omega arith)
front_below (false ∷ w) k h = absurd (omega arith)

pub front_stops : (w : List Bool) → get_or w (front w) false ≡ false
front_stops [] = refl
front_stops (true ∷ w) = front_stops w
front_stops (false ∷ w) = refl

pub front_most : (w : List Bool) → front w ≤ length w
front_most [] = omega arith
front_most (true ∷ w) = let h = front_most w in omega arith
front_most (false ∷ w) = omega arith

-- some number is the least one that is not received, if one is not
pub least : (g : ℕ → Bool) (fuel k : ℕ) → ((n : ℕ) → n < k → g n ≡ true) → g (k + fuel) ≡ false → (R : ℕ) × (((n : ℕ) → n < R → g n ≡ true) × (g R ≡ false))
least g zero k h e = (k, (h, subst (λ x. g x ≡ false) (omega arith) e))
least g (suc fuel) k h e =
    ⊎_elim
    (λ t. least g fuel (suc k) (λ n l. ⊎_elim (λ s. ap g s ∙ t) (λ o. h n (omega arith)) (cases_eq n k)) (subst (λ x. g x ≡ false) (omega arith) e))
    (λ f. (k, (h, f)))
    (cases_Bool (g k))

-- g says which numbers are received, w which of R to R+8 are
module _ (g : ℕ → Bool) (R : ℕ) (w : List Bool) (nine : length w ≡ 9) (same : (k : ℕ) → k < 9 → get_or w k false ≡ g (R + k)) (near : (n : ℕ) → g n ≡ true → n ≤ R + 8) (below : (n : ℕ) → n < R → g n ≡ true) where
  far : (n : ℕ) → R + 8 < n → g n ≡ false
  far n l = false_from (g n) (λ e. let z = near n e in omega arith)

  pub moved_below : (n : ℕ) → n < R + front w → g n ≡ true
  moved_below n l =
      ⊎_elim (below n)
      (λ k.
      let m = front_most w in
      let x : R + (n - R) ≡ n = omega arith in
      ap g (sym x) ∙ sym (same (n - R) (omega arith)) ∙ front_below w (n - R) (omega arith))
      (cases_lt n R)

  pub moved_stops : g (R + front w) ≡ false
  moved_stops = ⊎_elim (λ l. sym (same (front w) l) ∙ front_stops w) (λ l. far (R + front w) (omega arith)) (cases_lt (front w) 9)

  pub moved_length : length (map (λ i. get_or w (front w + 1 + i) false) (range_with_len 0 8)) ≡ 8
  moved_length = length-map-range_with_len (λ i. get_or w (front w + 1 + i) false) 0 8

  pub moved_flags : (i : ℕ) → i < 8 → get_or (map (λ i. get_or w (front w + 1 + i) false) (range_with_len 0 8)) i false ≡ g (R + front w + 1 + i)
  moved_flags i l =
      get_or-map-range_with_len (λ i. get_or w (front w + 1 + i) false) 0 8 i i false l (omega arith)
      ∙ ⊎_elim
      (λ k. same (front w + 1 + i) k ∙ ap g (omega arith))
      (λ k. get_or_past w (front w + 1 + i) false (omega arith) ∙ sym (far (R + front w + 1 + i) (omega arith)))
      (cases_lt (front w + 1 + i) 9)
