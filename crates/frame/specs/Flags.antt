-- The flags of a report in an octet: flag i is worth 2 to the power i.
use Rattle.std.specs.Prelude.{ℕ, ◌+◌, ◌/◌, ◌%◌, Bool, false, cond, List, [], ◌∷◌, ◌==◌, slice_index_or}

-- which flags an octet sets
abbrev pub marks_of : ℕ → List Bool
marks_of n =
    (n % 2 == 1) ∷ (n / 2 % 2 == 1) ∷ (n / 4 % 2 == 1) ∷ (n / 8 % 2 == 1) ∷ (n / 16 % 2 == 1) ∷ (n / 32 % 2 == 1)
    ∷ (n / 64 % 2 == 1) ∷ (n / 128 % 2 == 1) ∷ []

-- the octet with these flags
abbrev pub flags_octet : List Bool → ℕ
flags_octet ms =
    cond (slice_index_or ms 0 false) 1 0 + cond (slice_index_or ms 1 false) 2 0 + cond (slice_index_or ms 2 false) 4 0 + cond (slice_index_or ms 3 false) 8 0
    + cond (slice_index_or ms 4 false) 16 0 + cond (slice_index_or ms 5 false) 32 0 + cond (slice_index_or ms 6 false) 64 0 + cond (slice_index_or ms 7 false) 128 0
