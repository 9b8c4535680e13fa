use Rattle.std.proofs.Common.{◌+◌, get_or, rules}
use Rattle.rules.specs.Sending.{is_acknowledged}
use Rattle.rules.specs.declared.window.Mark.{Mark}
use Rattle.rules.proofs.Made.{made_by}
use Rattle.sender.proofs.window.Window.acknowledged.Goals as goal

pub returns : goal.returns
returns c = made_by (λ i. is_acknowledged (get_or c.args.self.now (1 + i) Mark.Unused)) 8 c.from_fn.ensures.items (λ k y q l e. search rules)
