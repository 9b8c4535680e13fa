use Rattle.std.proofs.Common.{subst, replicate, rules}
use Rattle.receiver.specs.Places.{bdu_of}
use Rattle.receiver.specs.Receivers.{Takes}
use Rattle.half.proofs.examples.is_awaited.Goals as goal

pub returns : goal.returns
returns g c =
    let t = subst (λ V. Takes V (g.D.Number.Number.value c.from_octet.result) (bdu_of c.short.result) 10 (replicate 424 0) c.take.result c.take.new.self.holds c.take.new.buffer) c.new-receiver.ensures c.take.ensures.rule in
    search rules
