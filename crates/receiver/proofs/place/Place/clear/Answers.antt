use Rattle.std.proofs.Common.{None, ap, arith, rules}
use Rattle.receiver.specs.Places.{piece_of}
use Rattle.rules.proofs.Sweeps.{swept_none, swept_more, swept_map}
use Rattle.receiver.proofs.Pieces.{emptied, all_none}
use Rattle.receiver.proofs.place.Place.clear.Goals as goal

pub loop-piece-preserved : goal.loop-piece-preserved
loop-piece-preserved c = swept_more piece_of None (λ _. emptied) _ _ _ _ c.loop-piece.invariant (omega arith) c.forget.ensures

pub returns : goal.returns
returns c =
    ap (λ ps. record { opened = 0; pieces = ps; last = None })
    (all_none _ _ (search rules) (swept_map piece_of None emptied _ c.loop-piece.piece-index c.loop-piece.piece-items c.loop-piece.invariant (omega arith)))
