use Rattle.std.proofs.Common.{List, not, length, refl, sym, ap, ◌≡◌, ◌∙◌, rules}
use Rattle.std.proofs.lemmas.Iterator.{YieldsList-from_slice}
use Rattle.std.proofs.lemmas.Iterator.Search.{YieldsList-from_take_while}
use Rattle.std.proofs.lemmas.Iterator.Consumers.{count_from_yields_List}
use Rattle.std.proofs.lemmas.List.Folds.{length-prefix_len}
use Rattle.rules.specs.Sending.{is_acknowledged}
use Rattle.rules.specs.declared.window.Mark.{Mark}
use Rattle.sender.proofs.Along.{first_along}
use Rattle.sender.proofs.window.Window.lead.Goals as goal

pub returns-clause-found : goal.returns-clause-found
returns-clause-found c =
    let ms : List Mark = c.args.self.now in
    let nine : length ms ≡ 9 = sym (ap length c.self.view_is) ∙ c.self.invariant in
    count_from_yields_List c.take_while.result c.count.result c.count.ensures.ran
    (YieldsList-from_take_while _ is_acknowledged (YieldsList-from_slice ms (cc)) (cc) (cc) (λ x b q k. search rules))
    ∙ length-prefix_len is_acknowledged ms
    ∙ sym (first_along (λ m. not (is_acknowledged m)) is_acknowledged Mark.Unused (λ m. refl) 9 ms nine)
