use Rattle.std.proofs.Common.{None}
use Rattle.receiver.specs.Places.{piece_of}
use Rattle.rules.proofs.Sweeps.{Swept}
use Rattle.receiver.proofs.Pieces.{emptied}
use Rattle.receiver.proofs.place.Place.clear.Given as goal

abbrev pub invariant-loop-piece : goal.invariant-loop-piece
invariant-loop-piece l = Swept piece_of None (λ _. emptied) l.initial.piece-items l.piece-index l.piece-items
