-- What two texts share at their fronts, and where a text departs from a word.
use Rattle.std.proofs.Common.{◌≡◌, ℕ, suc, ◌+◌, ◌<◌, Bool, true, false, eqb, cond, List, [], ◌∷◌, ◌++◌, length, get_or, take, drop, sym, ap, ◌∙◌, inl, inr, refl, arith}
use Rattle.std.specs.List.{common_prefix_len, prefix_len, zip}
use Rattle.std.proofs.lemmas.Bool.{eqb-true, eqb-false, cases_lt}
use Rattle.std.proofs.lemmas.List.{take_all, take-append-drop}
use Rattle.std.proofs.lemmas.List.Sums.{common_prefix_len-le}
use Rattle.forms.specs.Cursors.{Departs}

-- counted along both at once
pub zipped_front : (xs ys : List ℕ) → prefix_len (λ (p : ℕ × ℕ). eqb p.0 p.1) (zip xs ys) ≡ common_prefix_len eqb xs ys
zipped_front [] ys = refl
zipped_front (x ∷ xs) [] = refl
zipped_front (x ∷ xs) (y ∷ ys) = ap (λ n. cond (eqb x y) (1 + n) 0) (zipped_front xs ys)

-- one character more, or none
same_more : (b : Bool) (x y n : ℕ) (xs ys : List ℕ) → eqb x y ≡ b → take n xs ≡ take n ys
    → take (cond b (1 + n) 0) (x ∷ xs) ≡ take (cond b (1 + n) 0) (y ∷ ys)
same_more true x y n xs ys e same =
    let h : x ≡ y = eqb-true x y e in let one : 1 + n ≡ suc n = omega arith in rw one cc
same_more false x y n xs ys e same = refl

same_front : (xs ys : List ℕ) → take (common_prefix_len eqb xs ys) xs ≡ take (common_prefix_len eqb xs ys) ys
same_front [] [] = refl
same_front [] (y ∷ ys) = refl
same_front (x ∷ xs) [] = refl
same_front (x ∷ xs) (y ∷ ys) = same_more (eqb x y) x y (common_prefix_len eqb xs ys) xs ys refl (same_front xs ys)

-- what stands behind differs
differ_more : (b : Bool) (x y n : ℕ) (xs ys : List ℕ) → eqb x y ≡ b → (n < length xs → n < length ys → get_or xs n 0 ≡ get_or ys n 0 → ⊥)
    → cond b (1 + n) 0 < length (x ∷ xs) → cond b (1 + n) 0 < length (y ∷ ys) → get_or (x ∷ xs) (cond b (1 + n) 0) 0 ≡ get_or (y ∷ ys) (cond b (1 + n) 0) 0 → ⊥
differ_more true x y n xs ys e differ h k same =
    let one : 1 + n ≡ suc n = omega arith in differ (omega arith) (omega arith) (rw one at same)
differ_more false x y n xs ys e differ h k same = eqb-false x y e same

differ_behind : (xs ys : List ℕ) → common_prefix_len eqb xs ys < length xs → common_prefix_len eqb xs ys < length ys
    → get_or xs (common_prefix_len eqb xs ys) 0 ≡ get_or ys (common_prefix_len eqb xs ys) 0 → ⊥
differ_behind [] ys h k same = absurd (omega arith)
differ_behind (x ∷ xs) [] h k same = absurd (omega arith)
differ_behind (x ∷ xs) (y ∷ ys) h k same =
    differ_more (eqb x y) x y (common_prefix_len eqb xs ys) xs ys refl (differ_behind xs ys) h k same

-- a text that does not begin with a word departs from it there
pub departs : (text word : List ℕ) → ((rest : List ℕ) → text ≡ word ++ rest → ⊥) → Departs text word (common_prefix_len eqb text word)
departs text word other =
    let n = common_prefix_len eqb text word in
    let within = common_prefix_len-le eqb text word in
    elim (cases_lt n (length word)) [
      | inl inside ↦ record {
        inside = inside;
        within = within.0;
        same = same_front text word;
        here = λ h. differ_behind text word h inside;
      }
      | inr all ↦
          let front : take n text ≡ word = same_front text word ∙ take_all n word all in
          absurd (other (drop n text) (sym (take-append-drop n text) ∙ ap (λ t. t ++ drop n text) front))
    ]
