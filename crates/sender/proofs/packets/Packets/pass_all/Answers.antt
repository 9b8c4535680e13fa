use Rattle.std.proofs.Common.{ap, ◌∙◌, arith}
use Rattle.std.proofs.lemmas.List.{get_or_default}
use Rattle.rules.specs.Sending.{older}
use Rattle.sender.specs.Packets.{packet_of}
use Rattle.sender.specs.declared.packet.Packet.{Packet}
use Rattle.sender.proofs.PacketRow.{nothing}
use Rattle.rules.proofs.Sweeps.{swept_none, swept_more, swept_map}
use Rattle.sender.proofs.packets.Packets.pass_all.Goals as goal

pub loop-packet-init : goal.loop-packet-init
loop-packet-init c = swept_none packet_of nothing (λ k. older c.args.slot) c.self.inside.all

pub loop-packet-preserved : goal.loop-packet-preserved
loop-packet-preserved c =
    swept_more packet_of nothing (λ k. older c.args.slot) c.self.inside.all c.loop-packet.packet-index c.loop-packet.packet-items c.pass.new.self c.loop-packet.invariant (omega arith)
    (c.pass.ensures ∙ ap (λ (p : Packet). older c.args.slot (packet_of p)) (get_or_default c.loop-packet.packet-items c.loop-packet.packet-index _ nothing (omega arith)))

pub returns : goal.returns
returns c =
    rw (← c.self.view_is)
    (swept_map packet_of nothing (older c.args.slot) c.self.inside.all c.loop-packet.packet-index c.loop-packet.packet-items c.loop-packet.invariant (omega arith))
