use Rattle.std.proofs.Common.{ℕ, Bool, false, List, map, get_or}
use Rattle.rules.specs.Sending.{blank, is_whole, credit}
use Rattle.rules.specs.declared.window.Mark.{Mark}
use Rattle.sender.specs.Hearings.{tells}
use Rattle.sender.specs.Packets.{packet_of}
use Rattle.sender.specs.declared.hearing.Hearing.{Hearing}
use Rattle.sender.specs.declared.packet.Packet.{Packet}
use Rattle.rules.proofs.Sweeps.{Filled}
use Rattle.sender.proofs.packets.Packets.confirmed.Given as goal

-- whether the packet at a place is whole after the report
abbrev pub whole_at : Hearing → List Mark → List Packet → ℕ → Bool
whole_at h ms ps k = is_whole (get_or (credit (tells h) h.slot ms (map packet_of ps)) k blank)

abbrev pub invariant-loop-p : goal.invariant-loop-p
invariant-loop-p l = Filled false (whole_at l.report l.window l.packet-items) 16 l.p l.marks
