-- Where a list first departs from every list of a wanted form.
use Rattle.std.specs.Prelude.{◌≡◌, ℕ, ◌+◌, ◌<◌, ◌≤◌, List, ◌++◌, length, take}

-- some list of the wanted form begins so
abbrev pub Begins : (List ℕ → Type 0) → List ℕ → Type 0
Begins Wanted front = (rest : List ℕ) × Wanted (front ++ rest)

-- the first place, from 0, that is wrong, missing or too many: what stands before it begins a list of the wanted form;
-- with what stands there it begins none; and where nothing stands there, the list itself is not of that form
pub record FirstWrong (Wanted : List ℕ → Type 0) (xs : List ℕ) (place : ℕ) : Type 0 where
  pub within : place ≤ length xs
  pub before : Begins Wanted (take place xs)
  pub here : place < length xs → Begins Wanted (take (place + 1) xs) → ⊥
  pub missing : place ≡ length xs → Wanted xs → ⊥

-- there is at most one such place, and none in a list of the wanted form
pub record OnePlace (Wanted : List ℕ → Type 0) (xs : List ℕ) : Type 0 where
  pub one : (p q : ℕ) → FirstWrong Wanted xs p → FirstWrong Wanted xs q → p ≡ q
  pub none : (p : ℕ) → FirstWrong Wanted xs p → Wanted xs → ⊥
