use Rattle.std.proofs.Common.{rules, subst}
use Rattle.channel.specs.Wires.{InTime}
use Rattle.channel.proofs.Wiring.{in_time_takes}
use Rattle.channel.proofs.wire.WireChannel.take.Goals as goal

pub invariant_of-self-in-ToGround : goal.invariant_of-self-in-ToGround
invariant_of-self-in-ToGround c = in_time_takes c.args.self.now _ c.args.lane (subst InTime c.self.view_is c.self.invariant) (search rules)
