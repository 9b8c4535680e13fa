use Rattle.std.proofs.Common.{ap, ◌∙◌, rules}
use Rattle.rules.specs.Sending.{is_pending}
use Rattle.sender.specs.Sets.{marked}
use Rattle.sender.proofs.Sets.{marked_map}
use Rattle.sender.proofs.sender.Sender.pending.Goals as goal

pub returns : goal.returns
returns g c =
    rw (← ap (λ V. V.holds) c.self.view_is)
    (ap (marked 0) (c.held.ensures (is_pending) (λ t r p. search rules)) ∙ marked_map (λ o. is_pending o.standing) 0 c.self.inside.packets)
