-- The number that digits write is never smaller for more digits.
use Rattle.std.proofs.Common.{ℕ, ◌+◌, ◌-◌, ◌*◌, ◌≤◌, List, [], ◌∷◌, ◌++◌, arith}
use Rattle.std.proofs.lemmas.List.Sums.{fold-append}
use Rattle.forms.specs.Forms.{value_from}

-- a number is at least what stands before its digits
pub value_least : (n : ℕ) (digits : List ℕ) → n ≤ value_from n digits
value_least n [] = omega arith
value_least n (d ∷ ds) = let h : n * 10 + (d - 48) ≤ value_from (n * 10 + (d - 48)) ds = value_least (n * 10 + (d - 48)) ds in omega arith

-- more digits never make a number smaller
pub value_grows : (n : ℕ) (front more : List ℕ) → value_from n front ≤ value_from n (front ++ more)
value_grows n front more = rw (fold-append (λ m d. m * 10 + (d - 48)) n front more) (value_least (value_from n front) more)
