-- That the rules of send always leave exactly one answer, and one half after it.
use Rattle.std.specs.Prelude.{◌≡◌, ℕ}
use Rattle.rules.specs.Sending.{Sending, Answer, Sends}

-- at most one
abbrev pub OneAnswer : Type 0
OneAnswer = (now count : ℕ) (S : Sending) (a b : Answer) (S1 S2 : Sending) → Sends now count S a S1 → Sends now count S b S2 → (a ≡ b) × (S1 ≡ S2)

-- there always is one
abbrev pub SomeAnswer : Type 0
SomeAnswer = (now count : ℕ) (S : Sending) → (a : Answer) × (S' : Sending) × Sends now count S a S'
