-- The first place that passes a test, as a loop finds it.
use Rattle.std.proofs.Common.{◌≡◌, ℕ, zero, suc, ◌<◌, ◌≤◌, Bool, true, false, not, ◌&&◌, cond, leb, List, [], ◌∷◌, map, length, get_or, take, Option, Some, None, MatchOption, sym, ap, subst, ◌∙◌, refl, ⊎_elim, arith}
use Rattle.std.specs.List.{list_all, find, range_with_len}
use Rattle.std.specs.Option.{option_map}
use Rattle.std.proofs.lemmas.List.FromFn.{length-map-range_with_len, get_or-map-range_with_len}
use Rattle.std.proofs.lemmas.Bool.{cases_lt, cases_order, both_ways, le-leb, lt-leb}
use Rattle.rules.specs.Sending.{first}
use Rattle.rules.proofs.Lists.{first_most, first_passes, first_least}

first_same : (n : ℕ) (f g : ℕ → Bool) → ((k : ℕ) → k < n → f k ≡ g k) → first n f ≡ first n g
first_same zero f g e = refl
first_same (suc n) f g e = let a = e 0 (omega arith) in let b = first_same n (λ k. f (suc k)) (λ k. g (suc k)) (λ k l. e (suc k) (omega arith)) in cc

-- where a search in a list finds what passes
found_behind : (r : Option ℕ) (i n x : ℕ) (xs : List ℕ) → MatchOption r (i ≡ n) (λ y. (i < n) × (y ≡ get_or xs i 0)) → MatchOption r (suc i ≡ suc n) (λ y. (suc i < suc n) × (y ≡ get_or (x ∷ xs) (suc i) 0))
found_behind None i n x xs h = ap suc h
found_behind (Some y) i n x xs h = ((let l = h.0 in omega arith), h.1)

first_listed : (t : ℕ → Bool) (xs : List ℕ)
    → MatchOption (find t xs) (first (length xs) (λ k. t (get_or xs k 0)) ≡ length xs) (λ y. (first (length xs) (λ k. t (get_or xs k 0)) < length xs) × (y ≡ get_or xs (first (length xs) (λ k. t (get_or xs k 0))) 0))
first_listed t [] = refl
first_listed t (x ∷ xs) =
    let n : ℕ = length xs in
    let i : ℕ = first n (λ k. t (get_or xs k 0)) in
    elim (t x) as (λ b. MatchOption (cond b (Some x) (find t xs)) (cond b 0 (suc i) ≡ suc n) (λ y. (cond b 0 (suc i) < suc n) × (y ≡ get_or (x ∷ xs) (cond b 0 (suc i)) 0))) [
      | true ↦ ((omega arith), refl)
      | false ↦ found_behind (find t xs) i n x xs (first_listed t xs)
    ]

found_as : (r : Option ℕ) (h : ℕ → ℕ) (i j m n : ℕ) (xs : List ℕ) → i ≡ j → m ≡ n → (i < n → get_or xs i 0 ≡ h i) → MatchOption r (i ≡ m) (λ y. (i < m) × (y ≡ get_or xs i 0)) → MatchOption r (j ≡ n) (λ y. (j < n) × (y ≡ h j))
found_as None h i j m n xs e l g f = omega arith
found_as (Some y) h i j m n xs e l g f = let k = f.0 in ((omega arith), f.1 ∙ g (omega arith) ∙ ap h e)

found_itself : (r : Option ℕ) (P : Type 0) (Q : ℕ → Type 0) → MatchOption (option_map (λ x. x) r) P Q → MatchOption r P Q
found_itself None P Q h = h
found_itself (Some x) P Q h = h

-- in a list of what h gives in turn
pub first_mapped : (t : ℕ → Bool) (h : ℕ → ℕ) (n : ℕ) (r : Option ℕ) → option_map (λ x. x) r ≡ find t (map h (range_with_len 0 n))
    → MatchOption r (first n (λ k. t (h k)) ≡ n) (λ y. (first n (λ k. t (h k)) < n) × (y ≡ h (first n (λ k. t (h k)))))
first_mapped t h n r e =
    let xs : List ℕ = map h (range_with_len 0 n) in
    let long : length xs ≡ n = length-map-range_with_len h 0 n in
    let at : (k : ℕ) → k < n → get_or xs k 0 ≡ h k = λ k l. get_or-map-range_with_len h 0 n k k 0 l (omega arith) in
    let f : ℕ → Bool = λ k. t (get_or xs k 0) in
    let g : ℕ → Bool = λ k. t (h k) in
    let same : first (length xs) f ≡ first n g = ap (λ m. first m f) long ∙ first_same n f g (λ k l. ap t (at k l)) in
    found_itself r _ _
    (found_as (option_map (λ x. x) r) h (first (length xs) f) (first n g) (length xs) n xs same long (at (first (length xs) f))
    (subst (λ o. MatchOption o (first (length xs) f ≡ length xs) (λ y. (first (length xs) f < length xs) × (y ≡ get_or xs (first (length xs) f) 0))) (sym e) (first_listed t xs)))

-- all of the first n pass, where the first place that does not is looked for
all_more : (b c d : Bool) (n m : ℕ) → c ≡ leb n m → d ≡ leb (suc n) (cond (not b) 0 (suc m)) → (b && c) ≡ d
all_more true c d n m h e = h ∙ leb_suc ∙ sym e
  where
    leb_suc : leb n m ≡ leb (suc n) (suc m)
    leb_suc = ⊎_elim (λ l. lt-leb n m l ∙ sym (lt-leb (suc n) (suc m) (omega arith))) (λ g. le-leb n m g ∙ sym (le-leb (suc n) (suc m) (omega arith))) (cases_lt m n)
all_more false c d n m h e = sym (e ∙ lt-leb (suc n) 0 (omega arith))

pub all_first : {A : Type 0} (f : A → Bool) (d : A) (xs : List A) (n : ℕ) → n ≤ length xs → list_all f (take n xs) ≡ leb n (first n (λ k. not (f (get_or xs k d))))
all_first f d xs zero l = sym (le-leb 0 0 (omega arith))
all_first f d [] (suc n) l = absurd (omega arith)
all_first f d (x ∷ xs) (suc n) l = all_more (f x) _ _ n _ (all_first f d xs n (omega arith)) refl

-- the first place is the one before which none passes
pub first_is : (n : ℕ) (f : ℕ → Bool) (i : ℕ) → i < n → f i ≡ true → ((j : ℕ) → j < i → f j ≡ false) → first n f ≡ i
first_is n f i l e none =
    ⊎_elim (λ s. s)
    (⊎_elim
    (λ m. absurd (both_ways _ (none (first n f) m) (first_passes n f (omega arith))))
    (λ m. absurd (both_ways _ (first_least n f i m) e)))
    (cases_order (first n f) i)

pub first_none : (n : ℕ) (f : ℕ → Bool) → ((j : ℕ) → j < n → f j ≡ false) → first n f ≡ n
first_none n f none =
    let most = first_most n f in
    ⊎_elim (λ m. absurd (both_ways _ (none (first n f) m) (first_passes n f m))) (λ g. omega arith) (cases_lt (first n f) n)
