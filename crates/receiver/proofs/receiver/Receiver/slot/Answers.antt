use Rattle.std.proofs.Common.{ap, ◌∙◌, arith}
use Rattle.rules.specs.Receiving.{aged, slot}
use Rattle.receiver.specs.Places.{place_of}
use Rattle.receiver.proofs.Fronts.{half}
use Rattle.receiver.proofs.Pieces.{nowhere}
use Rattle.rules.proofs.Sweeps.{swept_map}
use Rattle.receiver.proofs.receiver.Receiver.slot.Goals as goal

pub returns : goal.returns
returns g c =
    let before = c.self.inside in
    ap (half (g.D.Number.Number.value before.oldest) before.flags)
    (swept_map place_of nowhere (aged c.args.slot) before.places c.loop-place.place-index c.loop-place.place-items c.loop-place.invariant (omega arith))
    ∙ ap (λ V. slot c.args.slot V.holds) c.self.view_is
