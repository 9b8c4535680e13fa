use Rattle.std.proofs.Common.{is_some, sym, subst, ◌∙◌, rules, tests}
use Rattle.std.proofs.iter.Yields.{fronts}
use Rattle.std.proofs.lemmas.Iterator.{YieldsList, YieldsList-from_slice}
use Rattle.std.proofs.lemmas.Iterator.Adapters.{YieldsList-from_skip}
use Rattle.std.proofs.lemmas.Iterator.Search.{any_from_yields_List}
use Rattle.receiver.proofs.Pieces.{any_behind}
use Rattle.receiver.proofs.place.Place.any_from.Goals as goal

pub returns : goal.returns
returns c =
    let pieces = c.args.self.now.pieces in
    let all = YieldsList-from_slice {s = c.iter.result} pieces c.iter.ensures.rest in
    let rest = YieldsList-from_skip {s = c.skip.result} c.args.from (subst (λ i. YieldsList fronts (λ y. y.now) i pieces) (sym c.skip.ensures.source) all) c.skip.ensures.count in
    any_from_yields_List is_some _ _ c.any.result c.any.ensures.ran rest (λ x b q k. search (rules, tests)) ∙ any_behind c.args.from pieces
