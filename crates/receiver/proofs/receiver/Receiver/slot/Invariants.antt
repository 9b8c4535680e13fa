use Rattle.receiver.specs.Places.{place_of}
use Rattle.rules.specs.Receiving.{aged}
use Rattle.receiver.proofs.Pieces.{nowhere}
use Rattle.rules.proofs.Sweeps.{Swept}
use Rattle.receiver.proofs.receiver.Receiver.slot.Given as goal

abbrev pub invariant-loop-place : goal.invariant-loop-place
invariant-loop-place g l = Swept place_of nowhere (λ _. aged l.slot) l.initial.place-items l.place-index l.place-items
