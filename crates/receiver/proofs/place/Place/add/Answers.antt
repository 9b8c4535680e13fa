use Rattle.std.proofs.Common.{◌≡◌, rules, ap, cond, Some, map, ◌∙◌}
use Rattle.std.proofs.lemmas.Bool.{not-true, not-false}
use Rattle.rules.specs.Receiving.{any}
use Rattle.receiver.specs.Places.{piece_of, bdu_of}
use Rattle.receiver.specs.declared.place.Place.{Place}
use Rattle.receiver.proofs.Pieces.{put_is, added_is}
use Rattle.receiver.proofs.place.Place.add.Goals as goal
use Rattle.receiver.proofs.place.Place.add.Goals.{then-not-any_from, else-not-any_from, then-not-header, else-not-header}

pub returns : goal.returns
returns c =
    let before : Place = c.args.self.now in
    let opened : c.if-not-any_from.self ≡ record { opened = cond (any (map piece_of before.pieces)) before.opened c.args.slot; last = before.last; pieces = before.pieces } =
    elim c.if-not-any_from.branch [
      | then-not-any_from w ↦ rw (← w.if-not-any_from.ensures) w.self-is
      | else-not-any_from w ↦ rw (← w.if-not-any_from.ensures) w.self-is
    ] in
    let ended : c.if-not-header.self ≡ record { opened = c.if-not-any_from.self.opened; last = cond c.args.bdu.header.more c.if-not-any_from.self.last (Some c.args.bdu.header.bsn); pieces = c.if-not-any_from.self.pieces } =
    elim c.if-not-header.branch [
      | then-not-header w ↦ rw (not-true _ w.if-not-header.true) w.self-is
      | else-not-header w ↦ rw (not-false _ w.if-not-header.false) w.self-is
    ] in
    added_is before _ _ _ (bdu_of c.args.bdu) c.args.slot _ opened ended (ap piece_of c.ok.ensures.value ∙ put_is c.try_from.result c.args.bdu.payload.now c.try_from.ensures (search rules)) c.from.ensures
