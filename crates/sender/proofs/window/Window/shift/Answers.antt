use Rattle.std.proofs.Common.{◌≡◌, ◌+◌, List, length, get_or, sym, ap, ◌∙◌, arith, rules}
use Rattle.rules.specs.declared.window.Mark.{Mark}
use Rattle.rules.proofs.Lists.{get_or_shift, length_shift}
use Rattle.rules.proofs.Made.{made_same}
use Rattle.sender.proofs.window.Window.shift.Goals as goal

pub returns : goal.returns
returns c =
    let ms : List Mark = c.args.self.now in
    let by = c.args.by in
    let nine : length ms ≡ 9 = sym (ap length c.self.view_is) ∙ c.self.invariant in
    made_same (λ k. get_or ms (by + k) Mark.Unused) 9 c.from_fn-self-inside.ensures.items (λ k y q l e. search rules) _ Mark.Unused
    (length_shift by ms Mark.Unused (omega arith) ∙ nine) (λ k l. get_or_shift by ms Mark.Unused k)
