-- How a reference number is held in code, as the rules see it: one that rests does so until 149 slots behind the accept.
use Rattle.std.specs.Prelude.{◌+◌}
use Rattle.sender.specs.declared.standing.Tenure.{Tenure}
use Rattle.sender.specs.declared.standing.Tenure.TheVariants as held
use Rattle.rules.specs.Constants.{rest}
use Rattle.rules.specs.declared.window.Standing.{Standing}

abbrev pub standing_of : Tenure → Standing
standing_of held.Free = Standing.Free
standing_of (held.Pending since) = Standing.Pending since
standing_of (held.Resting since) = Standing.Resting (since + rest)
