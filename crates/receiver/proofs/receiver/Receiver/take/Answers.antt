use Rattle.std.proofs.Common.{ap, ◌∙◌, true, false, refl, rules}
use Rattle.receiver.specs.Places.{bdu_of}
use Rattle.receiver.proofs.Taking.{rows_are, takes_is}
use Rattle.receiver.proofs.receiver.Receiver.take.Goals as goal

pub returns-clause-rule : goal.returns-clause-rule
returns-clause-rule g c =
    let u = bdu_of c.args.bdu in
    let at = c.place-at.result in
    takes_is c.args.self.now.holds _ u c.args.buffer.now false _ (ap (λ V. V.holds.places) c.self.view_is) at c.index-self-at.result c.place-at.ensures (search rules) c.if-buffer-lt-PACKET_ROOM.false c.if-not-awaits.ensures c.if-contradicts.ensures
    refl c.args.slot _ _ _ c.index-self-at-2.result c.add.new.self c.hand_up.new.self c.hand_up.new.buffer (ap (λ V. V.holds) c.self-2.view_is ∙ c.receive.ensures) c.add.ensures
    c.hand_up.result c.map.result c.hand_up.ensures.packet c.hand_up.ensures.place (search rules)

pub returns-then-contradicts-clause-rule : goal.returns-then-contradicts-clause-rule
returns-then-contradicts-clause-rule g c =
    let u = bdu_of c.args.bdu in
    let at = c.place-at.result in (
      rows_are c.args.self.now.holds _ u c.args.buffer.now true _ (ap (λ V. V.holds.places) c.self.view_is) at c.index-self-at.result c.place-at.ensures (search rules) c.if-buffer-lt-PACKET_ROOM.false c.if-not-awaits.ensures c.if-contradicts.ensures,
      refl,
    )
