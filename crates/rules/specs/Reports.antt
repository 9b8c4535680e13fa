-- Whether a report is refused, as a test.
use Rattle.std.specs.Prelude.{◌≡◌, ℕ, ◌+◌, Bool, true, false, not, ◌&&◌, ◌||◌, nat_lt}
use Rattle.rules.specs.Constants.{window_size}
use Rattle.rules.specs.Sending.{Sending, first, gap, told, was_sent, mark, Refused}

-- the report acknowledges a number that is not out: the first such entry, counted from the oldest, of the 18 that a report can tell of
abbrev pub astray : ℕ → (ℕ → Bool) → Sending → ℕ
astray R flag S = first (window_size + window_size) (λ k. told (gap R S) flag k && not (was_sent (mark S k)))

abbrev pub is_refused : ℕ → (ℕ → Bool) → Sending → Bool
is_refused R flag S = nat_lt window_size (gap R S) || nat_lt (astray R flag S) (window_size + window_size)

-- the test decides the rule
pub record Decided (R : ℕ) (flag : ℕ → Bool) (S : Sending) : Type 0 where
  pub refused : is_refused R flag S ≡ true → Refused R flag S
  pub taken : is_refused R flag S ≡ false → Refused R flag S → ⊥

abbrev pub TestDecides : Type 0
TestDecides = (R : ℕ) (flag : ℕ → Bool) (S : Sending) → Decided R flag S
