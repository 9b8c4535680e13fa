use Rattle.std.proofs.Common.{rules, ◌∙◌}
use Rattle.channel.proofs.Wiring.{settled}
use Rattle.channel.proofs.wire.WireLane.drop_older.Goals as goal

-- the loop ends where the oldest frame is young enough
pub returns : goal.returns
returns c = settled c.args.since c.loop-since.self-inside.frames c.first.result c.first.ensures (search rules) ∙ c.loop-since.invariant
