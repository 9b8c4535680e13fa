use Rattle.std.proofs.Common.{List, map, ap, ◌∙◌, arith}
use Rattle.std.proofs.lemmas.List.{length-map, get_or-map}
use Rattle.rules.specs.Sending.{left}
use Rattle.rules.specs.declared.window.Mark.{Mark}
use Rattle.rules.proofs.Sweeps.{swept_more, swept_same}
use Rattle.sender.proofs.window.Window.leave.Goals as goal

pub loop-mark-preserved : goal.loop-mark-preserved
loop-mark-preserved c =
    swept_more (λ m. m) Mark.Unused (λ _. left c.args.slot c.args.packets.now) c.self.inside.marks c.loop-mark.mark-index c.loop-mark.mark-items _ c.loop-mark.invariant (omega arith) c.left.ensures

pub returns : goal.returns
returns c =
    let ms : List Mark = c.self.inside.marks in
    swept_same Mark.Unused (λ _. left c.args.slot c.args.packets.now) ms c.loop-mark.mark-index c.loop-mark.mark-items c.loop-mark.invariant (omega arith) (map (left c.args.slot c.args.packets.now) ms) (length-map ms (left c.args.slot c.args.packets.now))
    (λ k l. get_or-map (left c.args.slot c.args.packets.now) ms k Mark.Unused Mark.Unused l)
    ∙ ap (map (left c.args.slot c.args.packets.now)) c.self.view_is
