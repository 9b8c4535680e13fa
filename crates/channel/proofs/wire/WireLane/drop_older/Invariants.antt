use Rattle.std.proofs.Common.{◌≡◌, length}
use Rattle.channel.specs.Wires.{seen, cleared}
use Rattle.channel.proofs.wire.WireLane.drop_older.Given as goal

-- the frames that are gone were all too old
abbrev pub invariant-loop-since : goal.invariant-loop-since
invariant-loop-since l = cleared l.since (seen l.self-inside.frames) ≡ cleared l.since l.fn.self

abbrev pub decreases-loop-since : goal.decreases-loop-since
decreases-loop-since l = length l.self-inside.frames.waiting
