use Rattle.std.proofs.Common.{◌≡◌, List, length, sym, ap, ◌∙◌, rules}
use Rattle.std.specs.List.{position}
use Rattle.std.proofs.lemmas.Iterator.{YieldsList-from_slice}
use Rattle.std.proofs.lemmas.Iterator.Search.{position_from_yields_List}
use Rattle.rules.specs.Sending.{is_open}
use Rattle.rules.specs.declared.window.Mark.{Mark}
use Rattle.sender.proofs.Along.{found_along}
use Rattle.sender.proofs.window.Window.first_open.Goals as goal

pub returns : goal.returns
returns c =
    let ms : List Mark = c.args.self.now in
    let nine : length ms ≡ 9 = sym (ap length c.self.view_is) ∙ c.self.invariant in
    let at : c.position.result ≡ position is_open ms =
    position_from_yields_List is_open _ _ c.position.result c.position.ensures.ran (YieldsList-from_slice ms (cc)) (λ x b q k. search rules) in
    rw at (found_along is_open Mark.Unused 9 ms nine)
