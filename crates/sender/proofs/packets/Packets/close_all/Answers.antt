use Rattle.std.proofs.Common.{ap, ◌∙◌, arith}
use Rattle.std.proofs.lemmas.List.{get_or_default}
use Rattle.rules.specs.Sending.{closed}
use Rattle.sender.specs.Packets.{packet_of}
use Rattle.sender.specs.declared.packet.Packet.{Packet}
use Rattle.sender.proofs.PacketRow.{nothing}
use Rattle.rules.proofs.Sweeps.{swept_none, swept_more, swept_map}
use Rattle.sender.proofs.packets.Packets.close_all.Goals as goal

pub loop-packet-init : goal.loop-packet-init
loop-packet-init c = swept_none packet_of nothing (λ k. closed) c.self.inside.all

pub loop-packet-preserved : goal.loop-packet-preserved
loop-packet-preserved c =
    swept_more packet_of nothing (λ k. closed) c.self.inside.all c.loop-packet.packet-index c.loop-packet.packet-items c.close.new.self c.loop-packet.invariant (omega arith)
    (c.close.ensures ∙ ap (λ (p : Packet). closed (packet_of p)) (get_or_default c.loop-packet.packet-items c.loop-packet.packet-index _ nothing (omega arith)))

pub returns : goal.returns
returns c =
    rw (← c.self.view_is)
    (swept_map packet_of nothing closed c.self.inside.all c.loop-packet.packet-index c.loop-packet.packet-items c.loop-packet.invariant (omega arith))
