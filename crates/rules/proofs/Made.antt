-- What `from_fn` and `map` make of an array, where the closure stays as it is and computes a function.
use Rattle.std.proofs.Common.{◌≡◌, ℕ, zero, suc, ◌+◌, ◌<◌, ◌≤◌, List, map, length, get_or, sym, refl, ap, ◌∙◌, subst, ⊎_elim, arith}
use denote.Param.Members.{Mut, Called}
use Rattle.std.specs.List.{range_with_len}
use Rattle.std.specs.Array.{IsFromFnResultFrom, IsFromFnResult, MapsFrom, IsMapOf}
use Rattle.std.proofs.lemmas.Bool.{cases_eq}
use Rattle.std.proofs.lemmas.List.{ext_get_or, length-map, get_or-map}
use Rattle.std.proofs.lemmas.List.FromFn.{fill_by_all}
use Rattle.rules.proofs.Lists.{get_or_map}

-- the place, where show is what matters of an element
module _ {F A B : Type 0} (g : Mut F (ℕ × Unit {0}) A) (f : F) (ys : List A) (show : A → B) (h : ℕ → B) where
  made_from : (i n : ℕ) → ((k : ℕ) (y : A) (q : F) → k < i + n → Called g f (k, tt) y q → (q ≡ f) × (show y ≡ h k))
      → (p : F) → p ≡ f → IsFromFnResultFrom g p ys i n → (k : ℕ) (d : A) → i ≤ k → k < i + n → show (get_or ys k d) ≡ h k
  made_from i zero computes p e m k d l u = absurd (omega arith)
  made_from i (suc n) computes p e m k d l u =
      let one : (m.0 ≡ f) × (show m.1 ≡ h i) = computes i m.1 m.0 (omega arith) (subst (λ x. Called g x (i, tt) m.1 m.0) e m.3) in
      ⊎_elim
      (λ here. ap (λ j. show (get_or ys j d)) here ∙ ap show (m.2.1 d) ∙ one.1 ∙ ap h (sym here))
      (λ later. made_from (i + 1) n (λ j y q s c. computes j y q (omega arith) c) m.0 one.0 m.4 k d (omega arith) (omega arith))
      (cases_eq k i)

-- so the array shows as h of each place
pub made_all : {F A B : Type 0} {g : Mut F (ℕ × Unit {0}) A} {f : F} {ys : List A} (show : A → B) (h : ℕ → B) (n : ℕ) (d : A) → IsFromFnResult g f ys n
    → ((k : ℕ) (y : A) (q : F) → k < n → Called g f (k, tt) y q → (q ≡ f) × (show y ≡ h k)) → map show ys ≡ map h (range_with_len 0 n)
made_all {g = g} {f = f} {ys = ys} show h n d m computes =
    fill_by_all h (map show ys) n (show d) (length-map ys show ∙ m.long)
    (λ k l. get_or_map show ys d k ∙ made_from g f ys show h 0 n (λ j y q s c. computes j y q (omega arith) c) f refl m.each k d (omega arith) (omega arith))

pub made_by : {F B : Type 0} {g : Mut F (ℕ × Unit {0}) B} {f : F} {ys : List B} (h : ℕ → B) (n : ℕ) → IsFromFnResult g f ys n
    → ((k : ℕ) (y : B) (q : F) → k < n → Called g f (k, tt) y q → (q ≡ f) × (y ≡ h k)) → ys ≡ map h (range_with_len 0 n)
made_by {g = g} {f = f} {ys = ys} h n m computes =
    fill_by_all h ys n (h 0) m.long
    (λ k l. made_from g f ys (λ x. x) h 0 n (λ j y q s c. computes j y q (omega arith) c) f refl m.each k (h 0) (omega arith) (omega arith))

-- where another list is known place by place
pub made_same : {F B : Type 0} {g : Mut F (ℕ × Unit {0}) B} {f : F} {ys : List B} (h : ℕ → B) (n : ℕ) → IsFromFnResult g f ys n
    → ((k : ℕ) (y : B) (q : F) → k < n → Called g f (k, tt) y q → (q ≡ f) × (y ≡ h k)) → (zs : List B) (d : B) → length zs ≡ n → ((k : ℕ) → k < n → get_or zs k d ≡ h k) → ys ≡ zs
made_same h n m computes zs d long at = made_by h n m computes ∙ sym (fill_by_all h zs n d long at)

-- the element
module _ {F A B : Type 0} (g : Mut F (A × Unit {0}) B) (f : F) (xs : List A) (ys : List B) (h : A → B) (computes : (x : A) (y : B) (q : F) → Called g f (x, tt) y q → (q ≡ f) × (y ≡ h x)) where
  mapped_from : (i n : ℕ) (p : F) → p ≡ f → MapsFrom g p xs ys i n → (k : ℕ) (a : A) (b : B) → i ≤ k → k < i + n → get_or ys k b ≡ h (get_or xs k a)
  mapped_from i zero p e m k a b l u = absurd (omega arith)
  mapped_from i (suc n) p e m k a b l u =
      let one : (m.0 ≡ f) × (m.2 ≡ h m.1) = computes m.1 m.2 m.0 (subst (λ x. Called g x (m.1, tt) m.2 m.0) e m.5) in
      ⊎_elim
      (λ here. ap (λ j. get_or ys j b) here ∙ m.4.1 b ∙ one.1 ∙ ap h (sym (m.3.1 a)) ∙ ap (λ j. h (get_or xs j a)) (sym here))
      (λ later. mapped_from (i + 1) n m.0 one.0 m.6 k a b (omega arith) (omega arith))
      (cases_eq k i)

pub mapped_by : {F A B : Type 0} {g : Mut F (A × Unit {0}) B} {f : F} {xs : List A} {ys : List B} (h : A → B) (n : ℕ) (d : A) → IsMapOf g f xs ys n → length xs ≡ n
    → ((x : A) (y : B) (q : F) → Called g f (x, tt) y q → (q ≡ f) × (y ≡ h x)) → ys ≡ map h xs
mapped_by {g = g} {f = f} {xs = xs} {ys = ys} h n d m e computes =
    let l = length-map xs h in
    ext_get_or (h d) ys (map h xs) (omega (arith, m.long))
    (λ k s. mapped_from g f xs ys h computes 0 n f refl m.each k d (h d) (omega arith) (omega (arith, m.long)) ∙ sym (get_or-map h xs k d (h d) (omega (arith, m.long))))
