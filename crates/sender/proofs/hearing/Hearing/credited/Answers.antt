use Rattle.std.proofs.Common.{◌+◌, List, drop, sym, ap, ◌∙◌, arith}
use Rattle.std.specs.Prelude.{fold}
use Rattle.std.specs.List.{enumerate_from}
use Rattle.std.proofs.lemmas.List.{at_drop_more}
use Rattle.rules.specs.declared.window.Mark.{Mark}
use Rattle.sender.specs.Hearings.{tells, step, credit_step}
use Rattle.sender.specs.declared.mark.Verdict.{Verdict}
use Rattle.sender.proofs.hearing.Hearing.credited.Goals as goal

pub loop-k-preserved : goal.loop-k-preserved
loop-k-preserved c =
    let h = c.args.self.now in
    let k = c.loop-k.k in
    let ms : List Mark = c.as_slice-mark-items.result.now in
    ap (λ bdus. fold (credit_step c.args.place (tells h) h.slot) bdus (enumerate_from (k + 1) (drop (k + 1) ms)))
    (c.apply.ensures ∙ ap (λ (v : Verdict). step c.args.place v.moved c.loop-k.after) c.verdict.ensures)
    ∙ sym (at_drop_more (λ xs. fold (credit_step c.args.place (tells h) h.slot) c.loop-k.after (enumerate_from k xs)) ms k Mark.Unused (omega arith))
    ∙ c.loop-k.invariant
