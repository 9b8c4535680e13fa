use Rattle.std.proofs.Common.{List, get_or, sym, ap, ◌∙◌, arith}
use Rattle.std.proofs.lemmas.List.{take_all}
use Rattle.rules.specs.Sending.{credit, credited, is_old}
use Rattle.rules.specs.declared.window.Mark.{Mark}
use Rattle.sender.specs.Hearings.{tells, moved_on}
use Rattle.sender.specs.declared.hearing.Hearing.{Hearing}
use Rattle.sender.specs.declared.mark.Verdict.{Verdict}
use Rattle.sender.proofs.Crediting.{credit_more, credited_moves}
use Rattle.sender.proofs.packets.Packets.credit.Goals as goal

pub loop-k-preserved : goal.loop-k-preserved
loop-k-preserved c =
    let h : Hearing = c.args.report.now in
    let k = c.loop-k.k in
    let ms : List Mark = c.as_slice-mark-items.result.now in
    let m : Mark = get_or ms k Mark.Unused in
    c.move_on.ensures ∙ ap (λ (v : Verdict). moved_on v.moved c.loop-k.self) c.verdict.ensures
    ∙ sym (credited_moves m (tells h k) (is_old h.slot m) c.loop-k.self) ∙ ap (credited m (tells h k) (is_old h.slot m)) c.loop-k.invariant
    ∙ sym (credit_more (tells h) h.slot ms c.args.self.now k (omega arith))

pub returns : goal.returns
returns c =
    let h : Hearing = c.args.report.now in
    let ms : List Mark = c.as_slice-mark-items.result.now in
    c.loop-k.invariant ∙ ap (λ xs. credit (tells h) h.slot xs c.args.self.now) (take_all c.loop-k.k ms (omega arith) ∙ c.as_slice-mark-items.ensures)
