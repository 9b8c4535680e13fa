use Rattle.std.proofs.Common.{map, Some, None, sym, refl, ap, ◌∙◌, subst}
use Rattle.receiver.specs.Places.{piece_of, Whole}
use Rattle.receiver.proofs.Pieces.{packet_none, packet_whole}
use Rattle.receiver.proofs.place.Place.hand_up.Goals as goal

pub returns-then-not-all_to-clause-packet : goal.returns-then-not-all_to-clause-packet
returns-then-not-all_to-clause-packet c =
    let last = c.in_ok-self.was ∙ ap Some (sym c.from-count.ensures) in
    let none = packet_none (map piece_of c.args.self.now.pieces) c.args.self.now.last c.from-count.result last (sym c.if-not-all_to.ensures) in
    subst (λ o. Whole o c.args.buffer.now None c.args.buffer.now) (sym none) refl

pub returns-clause-packet : goal.returns-clause-packet
returns-clause-packet c =
    let last = c.in_ok-self.was ∙ ap Some (sym c.from-count.ensures) in
    let whole = packet_whole (map piece_of c.args.self.now.pieces) c.args.self.now.last c.from-count.result last (sym c.if-not-all_to.ensures) in
    subst (λ o. Whole o c.args.buffer.now (Some c.gather-len.result) c.gather-len.new.packet) (sym whole) (c.gather-len.ensures.len, c.gather-len.ensures.packet)
