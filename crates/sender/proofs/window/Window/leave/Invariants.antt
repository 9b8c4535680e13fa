use Rattle.rules.specs.Sending.{left}
use Rattle.rules.specs.declared.window.Mark.{Mark}
use Rattle.rules.proofs.Sweeps.{Swept}
use Rattle.sender.proofs.window.Window.leave.Given as goal

abbrev pub invariant-loop-mark : goal.invariant-loop-mark
invariant-loop-mark l = Swept (λ m. m) Mark.Unused (λ _. left l.slot l.packets) l.initial.mark-items l.mark-index l.mark-items
