use Rattle.std.proofs.Common.{subst, ap}
use Rattle.rules.specs.Sending.{Sending}
use Rattle.sender.specs.Senders.{Outcome}
use Rattle.sender.proofs.Answering.{foretold}
use Rattle.sender.proofs.sender.Sender.foretell.Goals as goal

pub returns : goal.returns
returns g c =
    foretold c.hearing-told.result (g.D.Number.Number.value c.args.report.oldest) c.args.report.flags.octet c.args.slot c.args.self.now.holds c.outcome.result c.hearing-told.ensures
    (subst (λ (S : Sending). Outcome c.hearing-told.result S.window S.packets c.outcome.result) (ap (λ V. V.holds) c.self.view_is) c.outcome.ensures)
