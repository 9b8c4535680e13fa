use Rattle.std.proofs.Common.{List, ap, ◌∙◌, arith}
use Rattle.rules.specs.Sending.{judge}
use Rattle.rules.specs.declared.window.Mark.{Mark}
use Rattle.rules.proofs.Credit.{get_or_judge, length_judge}
use Rattle.rules.proofs.Sweeps.{swept_more, swept_same}
use Rattle.sender.specs.Hearings.{tells}
use Rattle.sender.specs.declared.hearing.Hearing.{Hearing}
use Rattle.sender.proofs.window.Window.judge.Invariants.{judged_by}
use Rattle.sender.proofs.window.Window.judge.Goals as goal

pub loop-k-preserved : goal.loop-k-preserved
loop-k-preserved c =
    swept_more (λ m. m) Mark.Unused (judged_by c.args.report.now) c.self.inside.marks c.loop-k.k c.loop-k.mark-items _ c.loop-k.invariant (omega arith) (ap (λ v. v.mark) c.verdict.ensures)

pub returns : goal.returns
returns c =
    let h : Hearing = c.args.report.now in
    let ms : List Mark = c.self.inside.marks in
    swept_same Mark.Unused (judged_by h) ms c.loop-k.k c.loop-k.mark-items c.loop-k.invariant (omega arith) (judge (tells h) h.slot ms) (length_judge (tells h) h.slot ms)
    (λ k l. get_or_judge (tells h) h.slot ms k)
    ∙ ap (judge (tells h) h.slot) c.self.view_is
