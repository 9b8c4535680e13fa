use Rattle.std.proofs.Common.{◌/◌, ◌%◌, ◌==◌, map, set, None, ap, sym, ◌∙◌}
use Rattle.std.proofs.lemmas.Bool.{cond-true, eq-eqb}
use Rattle.std.proofs.lemmas.List.{map-set}
use Rattle.channel.specs.Places.{place_of}
use Rattle.channel.proofs.places.Places.take.Goals as goal

pub returns-then-octet-eq0-clause-places : goal.returns-then-octet-eq0-clause-places
returns-then-octet-eq0-clause-places c =
    let ps = c.args.self.now.places in
    map-set place_of ps c.from-at.result None
    ∙ ap (λ k. set (map place_of ps) k None) c.from-at.ensures
    ∙ sym (cond-true (c.args.octet / 16 % 2 == 0) (set (map place_of ps) (c.args.octet % 16) None) (map place_of ps) (eq-eqb _ 0 c.if-octet-eq0.true))
