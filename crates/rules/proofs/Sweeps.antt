-- A loop that changes each element of a row in its turn.
use Rattle.std.proofs.Common.{◌≡◌, ℕ, ◌+◌, ◌<◌, ◌≤◌, List, map, length, get_or, set, sym, refl, ap, ◌∙◌, arith, length-set}
use Rattle.std.proofs.lemmas.List.{ext_get_or, length-map, get_or-map as get_or_mapped}
use Rattle.rules.proofs.Lists.{set_elim, get_or_map}

-- the first i elements of xs are changed: where show is what matters of an element, by f, which is told the place
pub record Swept {A B : Type 0} (show : A → B) (d : A) (f : ℕ → B → B) (xs : List A) (i : ℕ) (ys : List A) : Type 0 where
  pub long : length ys ≡ length xs
  pub done : (k : ℕ) → k < i → show (get_or ys k d) ≡ f k (show (get_or xs k d))
  pub left : (k : ℕ) → i ≤ k → get_or ys k d ≡ get_or xs k d

module _ {A B : Type 0} (show : A → B) (d : A) (f : ℕ → B → B) (xs : List A) where
  pub swept_none : Swept show d f xs 0 xs
  swept_none = record { long = refl; done = λ k l. absurd (omega arith); left = λ k l. refl }

  pub swept_more : (i : ℕ) (ys : List A) (v : A) → Swept show d f xs i ys → i < length xs → show v ≡ f i (show (get_or ys i d)) → Swept show d f xs (i + 1) (set ys i v)
  swept_more i ys v s l e =
      record {
        long = length-set ys i v ∙ s.long;
        done = λ k m.
            set_elim ys i v d k (λ x. show x ≡ f k (show (get_or xs k d))) (omega (arith, s.long))
            (λ z. e ∙ ap (λ x. f i (show x)) (s.left i (omega arith)) ∙ ap (λ j. f j (show (get_or xs j d))) (sym z))
            (λ z. s.done k (omega arith));
        left = λ k m.
            set_elim ys i v d k (λ x. x ≡ get_or xs k d) (omega (arith, s.long)) (λ z. absurd (omega arith)) (λ z. s.left k (omega arith));
      }

  -- all of them: what is shown of ys, by the place
  pub swept_all : (i : ℕ) (ys : List A) → Swept show d f xs i ys → length xs ≤ i → (zs : List B) → length zs ≡ length xs
      → ((k : ℕ) → k < length xs → get_or zs k (show d) ≡ f k (show (get_or xs k d))) → map show ys ≡ zs
  swept_all i ys s l zs n e =
      let m = length-map ys show in
      ext_get_or (show d) (map show ys) zs (omega (arith, s.long))
      (λ k h. get_or_map show ys d k ∙ s.done k (omega (arith, s.long)) ∙ sym (e k (omega (arith, s.long))))

-- where the whole of an element matters
pub swept_same : {A : Type 0} (d : A) (f : ℕ → A → A) (xs : List A) (i : ℕ) (ys : List A) → Swept (λ x. x) d f xs i ys → length xs ≤ i → (zs : List A) → length zs ≡ length xs
    → ((k : ℕ) → k < length xs → get_or zs k d ≡ f k (get_or xs k d)) → ys ≡ zs
swept_same d f xs i ys s l zs n e = ext_get_or d ys zs (omega (arith, s.long)) (λ k h. s.done k (omega (arith, s.long)) ∙ sym (e k (omega (arith, s.long))))

-- by one function at every place
pub swept_map : {A B : Type 0} (show : A → B) (d : A) (f : B → B) (xs : List A) (i : ℕ) (ys : List A) → Swept show d (λ k. f) xs i ys → length xs ≤ i → map show ys ≡ map f (map show xs)
swept_map show d f xs i ys s l =
    let n = length-map (map show xs) f in
    let o = length-map xs show in
    swept_all show d (λ k. f) xs i ys s l (map f (map show xs)) (omega arith)
    (λ k h. get_or_mapped f (map show xs) k (show d) (show d) (omega arith) ∙ ap f (get_or_map show xs d k))

-- a loop that fills a row of n places: the first i are filled
pub record Filled {A : Type 0} (d : A) (g : ℕ → A) (n i : ℕ) (ys : List A) : Type 0 where
  pub long : length ys ≡ n
  pub done : (k : ℕ) → k < i → get_or ys k d ≡ g k

pub filled_more : {A : Type 0} (d : A) (g : ℕ → A) (n i : ℕ) (ys : List A) (v : A) → Filled d g n i ys → i < n → v ≡ g i → Filled d g n (i + 1) (set ys i v)
filled_more d g n i ys v s l e =
    record {
      long = length-set ys i v ∙ s.long;
      done = λ k m. set_elim ys i v d k (λ x. x ≡ g k) (omega (arith, s.long)) (λ z. e ∙ ap g (sym z)) (λ z. s.done k (omega arith));
    }

pub filled_all : {A : Type 0} (d : A) (g : ℕ → A) (n i : ℕ) (ys : List A) → Filled d g n i ys → n ≤ i → (zs : List A) → length zs ≡ n → ((k : ℕ) → k < n → get_or zs k d ≡ g k) → ys ≡ zs
filled_all d g n i ys s l zs m e = ext_get_or d ys zs (omega (arith, s.long)) (λ k h. s.done k (omega (arith, s.long)) ∙ sym (e k (omega (arith, s.long))))
