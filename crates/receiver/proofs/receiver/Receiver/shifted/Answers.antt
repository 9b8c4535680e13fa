use Rattle.std.proofs.Common.{◌+◌, false, map, get_or, ap, ◌∙◌, rules}
use Rattle.std.specs.List.{range_with_len}
use Rattle.rules.proofs.Made.{made_by}
use Rattle.receiver.proofs.receiver.Receiver.shifted.Goals as goal

pub returns : goal.returns
returns g c =
    made_by (λ i. get_or c.self.inside.flags (c.args.by + i) false) 8 c.from_fn.ensures.items (λ k y q l e. search rules)
    ∙ ap (λ V. map (λ i. get_or V.holds.flags (c.args.by + i) false) (range_with_len 0 8)) c.self.view_is
