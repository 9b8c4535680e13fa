use Rattle.std.proofs.Common.{◌+◌, ◌*◌, ap, ◌∙◌, arith}
use Rattle.rules.specs.declared.window.PacketKey.{PacketKey}
use Rattle.sender.proofs.PacketRow.{packets_moved, packets_unmoved}
use Rattle.sender.proofs.packets.Packets.go_on.Goals as goal

pub returns-then-p-lt16 : goal.returns-then-p-lt16
returns-then-p-lt16 c =
    let at = c.place-p.ensures ∙ ap (λ (key : PacketKey). 4 * key.q + key.rn) c.packet.ensures in
    rw (← c.self.view_is) (packets_moved c.args.bdu c.args.to c.self.inside.all c.place-p.result _ c.advance.new.self at (omega arith) c.advance.ensures)

pub returns-else-p-lt16 : goal.returns-else-p-lt16
returns-else-p-lt16 c =
    let at = c.place-p.ensures ∙ ap (λ (key : PacketKey). 4 * key.q + key.rn) c.packet.ensures in
    rw (← c.self.view_is) (packets_unmoved c.args.bdu c.args.to c.self.inside.all (omega arith))
