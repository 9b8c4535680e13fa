use Rattle.std.proofs.Common.{is_some, sym, subst, ◌∙◌, rules, tests}
use Rattle.std.proofs.iter.Yields.{fronts}
use Rattle.std.proofs.lemmas.Iterator.{YieldsList, YieldsList-from_slice, YieldsList-from_take}
use Rattle.std.proofs.lemmas.Iterator.Search.{all_from_yields_List}
use Rattle.receiver.proofs.Pieces.{all_before}
use Rattle.receiver.proofs.place.Place.all_to.Goals as goal

pub returns : goal.returns
returns c =
    let pieces = c.args.self.now.pieces in
    let all = YieldsList-from_slice {s = c.iter.result} pieces c.iter.ensures.rest in
    let first = YieldsList-from_take {s = c.take.result} c.args.count (subst (λ i. YieldsList fronts (λ y. y.now) i pieces) (sym c.take.ensures.source) all) c.take.ensures.count in
    all_from_yields_List is_some _ _ c.all.result c.all.ensures.ran first (λ x b q k. search (rules, tests)) ∙ all_before c.args.count pieces
