-- The flags in front counted one by one, and a half's numbers after one is received.
use Rattle.std.proofs.Common.{◌≡◌, ℕ, suc, ◌+◌, ◌-◌, ◌%◌, ◌<◌, Bool, true, false, List, [], ◌∷◌, map, length, get_or, take, set, sym, refl, ap, ◌∙◌, arith, length-set}
use Rattle.std.proofs.lemmas.List.Folds.{length-prefix_len}
use Rattle.std.proofs.lemmas.List.FromFn.{fill_by_all, get_or-map-range_with_len}
use Rattle.std.specs.List.{range_with_len, prefix_len}
use Rattle.frame.specs.Numbers.{distance}
use Rattle.rules.specs.Receiving.{Receiving, Place, window, front, moved, received}

-- how many flags in front are set
front_is : (fs : List Bool) → prefix_len (λ x. x) fs ≡ front fs
front_is [] = refl
front_is (true ∷ fs) = omega (arith, front_is fs)
front_is (false ∷ fs) = refl

pub front_taken : (fs : List Bool) → length (take (prefix_len (λ x. x) fs) fs) ≡ front fs
front_taken fs = length-prefix_len (λ x. x) fs ∙ front_is fs

-- a half by its parts
abbrev pub half : ℕ → List Bool → List Place → Receiving
half r fs ps = record { oldest = r; flags = fs; places = ps }

-- n lies k behind R
module _ (r n k : ℕ) (fs : List Bool) (ps : List Place) (eight : length fs ≡ 8) (small : r < 256) (dist : distance r n ≡ k) where
  -- R moves past what is received with n
  moved_on : (w : List Bool) → set (window (half r fs ps)) k true ≡ w → received n (half r fs ps) ≡ moved w (half r fs ps)
  moved_on w e = ap (λ d. moved (set (window (half r fs ps)) d true) (half r fs ps)) dist ∙ ap (λ v. moved v (half r fs ps)) e

  -- a number behind R: its flag is set
  pub received_past : 0 < k → half r (set fs (k - 1) true) ps ≡ received n (half r fs ps)
  received_past l =
      let j : suc (k - 1) ≡ k = omega arith in
      let w : set (window (half r fs ps)) k true ≡ false ∷ set fs (k - 1) true = ap (λ d. set (window (half r fs ps)) d true) (sym j) in
      let f : set fs (k - 1) true ≡ map (λ i. get_or (false ∷ set fs (k - 1) true) (0 + 1 + i) false) (range_with_len 0 8) =
      fill_by_all (λ i. get_or (false ∷ set fs (k - 1) true) (0 + 1 + i) false) (set fs (k - 1) true) 8 false (length-set fs (k - 1) true ∙ eight)
      (λ i m. let z : suc i ≡ 0 + 1 + i = omega arith in ap (λ d. get_or (false ∷ set fs (k - 1) true) d false) z) in
      let o : r ≡ (r + 0) % 256 = omega arith in
      ap (λ x. half x (set fs (k - 1) true) ps) o ∙ ap (λ x. half ((r + 0) % 256) x ps) f ∙ sym (moved_on (false ∷ set fs (k - 1) true) w)

  -- R itself: R moves past what is received behind it
  pub received_first : k ≡ 0 → half ((r + (front fs + 1)) % 256) (map (λ i. get_or fs (front fs + 1 + i) false) (range_with_len 0 8)) ps ≡ received n (half r fs ps)
  received_first z =
      let w : set (window (half r fs ps)) k true ≡ true ∷ fs = ap (λ d. set (window (half r fs ps)) d true) z in
      let f : map (λ i. get_or fs (front fs + 1 + i) false) (range_with_len 0 8) ≡ map (λ i. get_or (true ∷ fs) (suc (front fs) + 1 + i) false) (range_with_len 0 8) =
      fill_by_all (λ i. get_or (true ∷ fs) (suc (front fs) + 1 + i) false) (map (λ i. get_or fs (front fs + 1 + i) false) (range_with_len 0 8)) 8 false refl
      (λ i m. get_or-map-range_with_len (λ i. get_or fs (front fs + 1 + i) false) 0 8 i i false m (omega arith) ∙ (let y : suc (front fs + 1 + i) ≡ suc (front fs) + 1 + i = omega arith in ap (λ d. get_or (true ∷ fs) d false) y)) in
      let o : (r + (front fs + 1)) % 256 ≡ (r + suc (front fs)) % 256 = ap (λ x. x % 256) (omega arith) in
      ap (λ x. half x (map (λ i. get_or fs (front fs + 1 + i) false) (range_with_len 0 8)) ps) o ∙ ap (λ x. half ((r + suc (front fs)) % 256) x ps) f ∙ sym (moved_on (true ∷ fs) w)
