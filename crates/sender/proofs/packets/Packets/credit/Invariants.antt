use Rattle.std.proofs.Common.{◌≡◌, take}
use Rattle.rules.specs.Sending.{credit}
use Rattle.sender.specs.Hearings.{tells}
use Rattle.sender.proofs.packets.Packets.credit.Given as goal

abbrev pub invariant-loop-k : goal.invariant-loop-k
invariant-loop-k l = l.self ≡ credit (tells l.report) l.report.slot (take l.k l.mark-items) l.initial.self
