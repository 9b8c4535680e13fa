use Rattle.std.proofs.Common.{◌∙◌, sym}
use Rattle.channel.specs.Places.{frame_of}
use Rattle.channel.proofs.Held.{filled_at, filled_none}
use Rattle.channel.proofs.places.Places.put.Goals as goal

pub returns-in-Some : goal.returns-in-Some
returns-in-Some c = filled_at c.args.frame c.args.self.now.places c.in-Some.free (sym c.free.ensures ∙ c.in-Some.is)

pub returns-in_default : goal.returns-in_default
returns-in_default c = filled_none (frame_of c.args.frame) c.args.self.now.places (sym c.free.ensures ∙ c.in_default.is)
