use Rattle.std.proofs.Common.{◌≡◌, true, List, ℕ, Bool, not, ◌&&◌, ◌||◌, ltb, get_or, sym, refl, ap, ◌∙◌, arith, rules}
use Rattle.std.proofs.lemmas.Bool.{lt-ltb, le-ltb, or_left}
use Rattle.std.proofs.lemmas.Iterator.{YieldsList-from_range}
use Rattle.std.proofs.lemmas.Iterator.Search.{any_from_yields_List}
use Rattle.sender.specs.Hearings.{tells}
use Rattle.sender.specs.declared.hearing.Hearing.{Hearing}
use Rattle.rules.specs.Sending.{first, was_sent}
use Rattle.rules.specs.declared.window.Mark.{Mark}
use Rattle.sender.proofs.Along.{any_is}
use Rattle.sender.proofs.hearing.Hearing.is_refused.Goals as goal

abbrev astray : Hearing → List Mark → ℕ → Bool
astray h ms k = tells h k && not (was_sent (get_or ms k Mark.Unused))

pub returns-then-from-gt-WINDOW : goal.returns-then-from-gt-WINDOW
returns-then-from-gt-WINDOW c =
    let gap = c.args.self.now.gap in
    let far : ltb 9 gap ≡ true = lt-ltb 9 gap (omega arith) in
    ap (ltb 9) c.from.ensures ∙ far ∙ sym (or_left (ltb 9 gap) (ltb (first 18 (astray c.args.self.now c.args.window.now)) 18) far)

pub returns-else-from-gt-WINDOW : goal.returns-else-from-gt-WINDOW
returns-else-from-gt-WINDOW c =
    let f : ℕ → Bool = astray c.args.self.now c.args.window.now in
    any_from_yields_List f _ _ _ c.any.ensures.ran (YieldsList-from_range 0 18 18 (cc) refl) (λ x b q k. search rules)
    ∙ any_is f 18
    ∙ ap (λ b. b || ltb (first 18 f) 18) (sym (le-ltb 9 c.args.self.now.gap (omega arith)))
