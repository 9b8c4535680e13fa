use Rattle.std.proofs.Common.{rules, subst}
use Rattle.channel.specs.Wires.{InTime}
use Rattle.channel.proofs.Wiring.{slots_is, in_time_slots}
use Rattle.channel.proofs.wire.WireChannel.slot.Goals as goal

pub invariant_of-self : goal.invariant_of-self
invariant_of-self c = in_time_slots c.args.self.now _ c.args.slot (search rules) (subst InTime c.self.view_is c.self.invariant) (search rules)

pub returns-clause-channel : goal.returns-clause-channel
returns-clause-channel c = slots_is c.args.self.now _ c.args.slot (search rules) (search rules)

pub returns-clause-in_time : goal.returns-clause-in_time
returns-clause-in_time c = in_time_slots c.args.self.now _ c.args.slot (search rules) (subst InTime c.self.view_is c.self.invariant) (search rules)
