use Rattle.std.proofs.Common.{take, length}
use Rattle.receiver.proofs.Gathering.{Laid, held}
use Rattle.receiver.proofs.place.Place.gather.Given as goal

abbrev pub invariant-loop-part : goal.invariant-loop-part
invariant-loop-part l =
    (goal.iterator-loop-part).can_next l.part-iterator
    × (goal.iterator-loop-part).is_finite l.part-iterator
    × Laid (held (take l.count l.self.pieces)) l.initial.packet (length l.yielded) l.len l.packet
