-- A line of input: each but the last ends in a newline.
use Rattle.std.specs.Prelude.{◌≡◌, ℕ, ◌-◌, ◌<◌, List, length, take, slice_index}

-- a line ends in a newline
abbrev pub Ended : List ℕ → Type 0
Ended line = (0 < length line) × (slice_index line (length line - 1) ≡ 10)

-- what a line says is all of it but the newline at its end
pub record Said (line said : List ℕ) : Type 0 where
  pub cut : Ended line → said ≡ take (length line - 1) line
  pub same : (Ended line → ⊥) → said ≡ line
