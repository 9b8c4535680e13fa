use Rattle.std.proofs.Common.{rules, subst}
use Rattle.channel.specs.Wires.{InTime}
use Rattle.channel.proofs.Wiring.{puts_is, in_time_puts}
use Rattle.channel.proofs.wire.WireChannel.put.Goals as goal

pub invariant_of-self : goal.invariant_of-self
invariant_of-self c = in_time_puts c.args.self.now _ c.args.lane c.args.frame.now (subst InTime c.self.view_is c.self.invariant) (search rules)

pub invariant_of-self-in-ToGround : goal.invariant_of-self-in-ToGround
invariant_of-self-in-ToGround c = in_time_puts c.args.self.now _ c.args.lane c.args.frame.now (subst InTime c.self.view_is c.self.invariant) (search rules)

pub returns-in-ToAircraft-clause-channel : goal.returns-in-ToAircraft-clause-channel
returns-in-ToAircraft-clause-channel c = puts_is c.args.self.now _ c.args.lane c.args.frame.now (search rules) (search rules)

pub returns-in-ToGround-clause-channel : goal.returns-in-ToGround-clause-channel
returns-in-ToGround-clause-channel c = puts_is c.args.self.now _ c.args.lane c.args.frame.now (search rules) (search rules)
