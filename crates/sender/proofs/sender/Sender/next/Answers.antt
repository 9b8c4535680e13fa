use Rattle.std.proofs.Common.{sym, ap}
use Rattle.sender.proofs.sender.Sender.next.Goals as goal

pub returns : goal.returns
returns g c = c.best.ensures.next c.args.self.now.holds (sym (ap (λ V. V.holds.packets) c.self.view_is))
