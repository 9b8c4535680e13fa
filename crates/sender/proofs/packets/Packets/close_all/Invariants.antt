use Rattle.rules.specs.Sending.{closed}
use Rattle.sender.specs.Packets.{packet_of}
use Rattle.sender.proofs.PacketRow.{nothing}
use Rattle.rules.proofs.Sweeps.{Swept}
use Rattle.sender.proofs.packets.Packets.close_all.Given as goal

abbrev pub invariant-loop-packet : goal.invariant-loop-packet
invariant-loop-packet l = Swept packet_of nothing (λ k. closed) l.initial.packet-items l.packet-index l.packet-items
