use Rattle.std.proofs.Common.{◌≡◌, length}
use Rattle.half.proofs.Rounds.{clean}
use Rattle.half.proofs.examples.go_round.Given as goal

abbrev pub invariant-loop-k : goal.invariant-loop-k
invariant-loop-k g l = (l.receiver.holds ≡ clean l.k) × (length l.buffer ≡ 424)
