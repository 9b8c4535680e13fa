use Rattle.sender.proofs.PacketRow.{packet_put}
use Rattle.sender.proofs.packets.Packets.fill.Goals as goal

pub returns : goal.returns
returns c = rw (← c.self.view_is, c.place.ensures) (packet_put c.self.inside.all _ _ _ c.fill.ensures)
