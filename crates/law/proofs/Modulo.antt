-- Numbers that are near each other are told by their remainders by 256.
use Rattle.std.proofs.Common.{◌≡◌, ℕ, ◌+◌, ◌-◌, ◌%◌, ◌<◌, ◌≤◌, arith}
use Rattle.frame.specs.Numbers.{distance}

-- a data number n that can still come, by its remainder: R is the oldest number not received, A the oldest not acknowledged, U the first unused
pub awaited_by_rest : (A U R n : ℕ) → A ≤ R → R ≤ U → U ≤ A + 9 → n < U → U ≤ n + 25
    → (R ≤ n → (distance (R % 256) (n % 256) ≡ n - R) × (distance (R % 256) (n % 256) ≤ 8)) × (n < R → 231 ≤ distance (R % 256) (n % 256))
awaited_by_rest A U R n a b c d e = (λ k. (omega arith, omega arith), λ k. omega arith)
