-- Numbers of data frames: they count modulo 256.
use Rattle.std.specs.Prelude.{ℕ, ◌+◌, ◌-◌, ◌%◌}

-- numbers count modulo this
abbrev pub modulus : ℕ
modulus = 256

-- the number that comes a given count of steps later
abbrev pub advanced : ℕ → ℕ → ℕ
advanced n steps = (n + steps) % modulus

-- how many steps the second number comes after the first
abbrev pub distance : ℕ → ℕ → ℕ
distance n later = (later + (modulus - n)) % modulus
