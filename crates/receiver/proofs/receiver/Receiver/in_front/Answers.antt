use Rattle.std.proofs.Common.{ap, ◌∙◌, rules, tests}
use Rattle.std.proofs.lemmas.Iterator.{YieldsList-from_slice}
use Rattle.std.proofs.lemmas.Iterator.Consumers.{YieldsList-at, count_from_yields_List}
use Rattle.std.proofs.lemmas.Iterator.Search.{YieldsList-from_take_while}
use Rattle.rules.specs.Receiving.{front}
use Rattle.receiver.proofs.Fronts.{front_taken}
use Rattle.receiver.proofs.receiver.Receiver.in_front.Goals as goal

pub returns-clause-count : goal.returns-clause-count
returns-clause-count g c =
    let flags = c.self.inside.flags in
    let all = YieldsList-from_slice {s = c.iter.result} flags c.iter.ensures.rest in
    count_from_yields_List c.take_while.result c.count.result c.count.ensures.ran
    (YieldsList-from_take_while {s = c.take_while.result} _ (λ x. x) (YieldsList-at c.take_while.ensures.source all) c.take_while.ensures.closure c.take_while.ensures.done (λ x b q k. search (rules, tests)))
    ∙ front_taken flags ∙ ap (λ V. front V.holds.flags) c.self.view_is
