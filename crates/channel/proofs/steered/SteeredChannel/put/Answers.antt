use Rattle.std.proofs.Common.{rules}
use Rattle.channel.proofs.Keeping.{puts_is}
use Rattle.channel.proofs.steered.SteeredChannel.put.Goals as goal

pub returns-in-ToAircraft-clause-channel : goal.returns-in-ToAircraft-clause-channel
returns-in-ToAircraft-clause-channel c = puts_is c.args.self.now _ c.args.lane c.args.frame.now (search rules) (search rules)

pub returns-in-ToGround-clause-channel : goal.returns-in-ToGround-clause-channel
returns-in-ToGround-clause-channel c = puts_is c.args.self.now _ c.args.lane c.args.frame.now (search rules) (search rules)
