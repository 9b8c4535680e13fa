use Rattle.std.proofs.Common.{rules}
use Rattle.rules.specs.Sending.{empty}
use Rattle.rules.proofs.Made.{made_all}
use Rattle.sender.specs.Packets.{packet_of}
use Rattle.sender.proofs.PacketRow.{nothing}
use Rattle.sender.proofs.packets.Packets.new.Goals as goal

pub returns : goal.returns
returns c = made_all packet_of (λ _. empty) 16 nothing c.from_fn.ensures.items (λ k y q l e. search rules)
