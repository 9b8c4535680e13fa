use Rattle.std.proofs.Common.{ℕ}
use Rattle.rules.specs.Sending.{judged, is_old}
use Rattle.rules.specs.declared.window.Mark.{Mark}
use Rattle.rules.proofs.Sweeps.{Swept}
use Rattle.sender.specs.Hearings.{tells}
use Rattle.sender.specs.declared.hearing.Hearing.{Hearing}
use Rattle.sender.proofs.window.Window.judge.Given as goal

abbrev pub judged_by : Hearing → ℕ → Mark → Mark
judged_by h k m = judged m (tells h k) (is_old h.slot m)

abbrev pub invariant-loop-k : goal.invariant-loop-k
invariant-loop-k l = Swept (λ m. m) Mark.Unused (judged_by l.report) l.initial.mark-items l.k l.mark-items
