-- Lists by their places, and the first place that passes a test.
use Rattle.std.proofs.Common.{◌≡◌, ℕ, zero, suc, ◌+◌, ◌<◌, ◌≤◌, Bool, true, false, List, [], ◌∷◌, ◌++◌, map, length, get_or, drop, set, replicate, sym, refl, ap, ◌∙◌, subst, inl, inr, ⊎_elim, arith, length-append, length-drop}
use lib.ListN.{length-replicate}
use Rattle.std.proofs.lemmas.Bool.{cases_lt, cases_eq, cond_both}
use Rattle.std.proofs.lemmas.List.{get_or-set_same, get_or-set_other, get_or_append_left, get_or-append_right, get_or_past, get_or-drop}
use Rattle.rules.specs.Sending.{Standing, Outgoing, first, places, blank}
use Rattle.rules.specs.Members.{Among}

pub never : {A : Type 0} → ◌≡◌ {A = ℕ} 0 1 → A
never e = absurd (omega arith)

pub set_elim : {A : Type 0} (xs : List A) (i : ℕ) (v d : A) (k : ℕ) (P : A → Type 0) → i < length xs → (k ≡ i → P v) → ((k ≡ i → ⊥) → P (get_or xs k d)) → P (get_or (set xs i v) k d)
set_elim xs i v d k P l same other =
    ⊎_elim
    (λ e. subst P (sym (ap (λ x. get_or (set xs i v) x d) e ∙ get_or-set_same xs i v d l)) (same e))
    (λ o. subst P (sym (get_or-set_other xs i k v d o)) (other o))
    (cases_eq k i)

pub get_or_map : {A B : Type 0} (f : A → B) (xs : List A) (d : A) (k : ℕ) → get_or (map f xs) k (f d) ≡ f (get_or xs k d)
get_or_map f [] d k = refl
get_or_map f (x ∷ xs) d zero = refl
get_or_map f (x ∷ xs) d (suc k) = get_or_map f xs d k

pub get_or_same : {A : Type 0} (n : ℕ) (d : A) (k : ℕ) → get_or (replicate n d) k d ≡ d
get_or_same zero d k = refl
get_or_same (suc n) d zero = refl
get_or_same (suc n) d (suc k) = get_or_same n d k

pub get_or_either : {A : Type 0} (n : ℕ) (a d : A) (k : ℕ) (P : A → Type 0) → P a → P d → P (get_or (replicate n a) k d)
get_or_either zero a d k P x y = y
get_or_either (suc n) a d zero P x y = x
get_or_either (suc n) a d (suc k) P x y = get_or_either n a d k P x y

-- the list without its first n, filled up again with the default
pub get_or_shift : {A : Type 0} (n : ℕ) (xs : List A) (d : A) (k : ℕ) → get_or (drop n xs ++ replicate n d) k d ≡ get_or xs (n + k) d
get_or_shift n xs d k =
    ⊎_elim
    (λ l. get_or_append_left (drop n xs) (replicate n d) d k l ∙ get_or-drop n xs k d)
    (λ g. get_or-append_right (drop n xs) (replicate n d) (length (drop n xs)) k d refl g ∙ get_or_same n d _ ∙ sym (get_or_past xs (n + k) d (let e = length-drop n xs in omega arith)))
    (cases_lt k (length (drop n xs)))

pub length_shift : {A : Type 0} (n : ℕ) (xs : List A) (d : A) → n ≤ length xs → length (drop n xs ++ replicate n d) ≡ length xs
length_shift n xs d h = let a = length-append (drop n xs) (replicate n d) in let b = length-drop n xs in let c = length-replicate n d in omega arith

-- the first place that passes
pub first_most : (n : ℕ) (f : ℕ → Bool) → first n f ≤ n
first_most zero f = omega arith
first_most (suc n) f = let r = first_most n (λ k. f (suc k)) in cond_both (f 0) 0 (suc (first n (λ k. f (suc k)))) (λ x. x ≤ suc n) (λ _. omega arith) (λ _. omega arith)

pub first_passes : (n : ℕ) (f : ℕ → Bool) → first n f < n → f (first n f) ≡ true
first_passes zero f = λ h. absurd (omega arith)
first_passes (suc n) f =
    cond_both (f 0) 0 (suc (first n (λ k. f (suc k)))) (λ x. x < suc n → f x ≡ true) (λ e _. e) (λ _ h. first_passes n (λ k. f (suc k)) (omega arith))

pub first_least : (n : ℕ) (f : ℕ → Bool) (j : ℕ) → j < first n f → f j ≡ false
first_least zero f j = λ h. absurd (omega arith)
first_least (suc n) f zero =
    cond_both (f 0) 0 (suc (first n (λ k. f (suc k)))) (λ x. zero < x → f 0 ≡ false) (λ _ h. absurd (omega arith)) (λ e _. e)
first_least (suc n) f (suc j) =
    cond_both (f 0) 0 (suc (first n (λ k. f (suc k)))) (λ x. suc j < x → f (suc j) ≡ false) (λ _ h. absurd (omega arith)) (λ _ h. first_least n (λ k. f (suc k)) j (omega arith))

-- places lists every place that passes
pub places_have : (f : Outgoing → Bool) (i : ℕ) (os : List Outgoing) (k : ℕ) → k < length os → f (get_or os k blank) ≡ true → Among (i + k) (places f i os)
places_have f i [] k l e = absurd (omega arith)
places_have f i (o ∷ os) zero l e = rw e (inl (omega arith))
places_have f i (o ∷ os) (suc k) l e =
    let r : Among (i + suc k) (places f (suc i) os) = subst (λ x. Among x (places f (suc i) os)) (omega arith) (places_have f (suc i) os k (omega arith) e) in
    cond_both (f o) (i ∷ places f (suc i) os) (places f (suc i) os) (Among (i + suc k)) (λ _. inr r) (λ _. r)

pub places_only : (f : Outgoing → Bool) (i : ℕ) (os : List Outgoing) (p : ℕ) → Among p (places f i os) → (k : ℕ) × (p ≡ i + k) × (k < length os) × (f (get_or os k blank) ≡ true)
places_only f i [] p = λ a. absurd a
places_only f i (o ∷ os) p =
    let more : Among p (places f (suc i) os) → (k : ℕ) × (p ≡ i + k) × (k < suc (length os)) × (f (get_or (o ∷ os) k blank) ≡ true) =
    λ a. let r = places_only f (suc i) os p a in (suc r.0, (let e = r.1 in omega arith), (let l = r.2 in omega arith), r.3) in
    cond_both (f o) (i ∷ places f (suc i) os) (places f (suc i) os) (λ x. Among p x → (k : ℕ) × (p ≡ i + k) × (k < suc (length os)) × (f (get_or (o ∷ os) k blank) ≡ true))
    (λ e. ⊎_elim (λ s. (0, (omega arith), (omega arith), e)) more)
    (λ _. more)

-- a pending packet lies in the list
pub inside : (ps : List Outgoing) (p since : ℕ) → (get_or ps p blank).standing ≡ Standing.Pending since → p < length ps
inside ps p since e = ⊎_elim (λ l. l) (λ g. never (let z = ap (λ o. o.standing) (get_or_past ps p blank g) in cc)) (cases_lt p (length ps))

-- what holds at every place and of what is put in holds at every place after it is put in
pub set_keeps : {A : Type 0} (P : A → Type 0) (xs : List A) (i : ℕ) (v d : A) → P v → ((k : ℕ) → P (get_or xs k d)) → (k : ℕ) → P (get_or (set xs i v) k d)
set_keeps P [] i v d h all k = all k
set_keeps P (x ∷ xs) zero v d h all zero = h
set_keeps P (x ∷ xs) zero v d h all (suc k) = all (suc k)
set_keeps P (x ∷ xs) (suc i) v d h all zero = all 0
set_keeps P (x ∷ xs) (suc i) v d h all (suc k) = set_keeps P xs i v d h (λ j. all (suc j)) k

-- what holds at every place and is kept by f holds at every place after f
pub map_keeps : {A : Type 0} (P : A → Type 0) (f : A → A) → ((x : A) → P x → P (f x)) → (xs : List A) (d : A) → ((k : ℕ) → P (get_or xs k d)) → (k : ℕ) → P (get_or (map f xs) k d)
map_keeps P f h [] d all k = all k
map_keeps P f h (x ∷ xs) d all zero = h x (all 0)
map_keeps P f h (x ∷ xs) d all (suc k) = map_keeps P f h xs d (λ j. all (suc j)) k
