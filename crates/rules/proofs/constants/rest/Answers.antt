use Rattle.std.proofs.Common.{refl}
use Rattle.rules.proofs.Examples.{five, more}
use Rattle.rules.proofs.constants.rest.Goals as goal

pub returns : goal.returns
returns c = record { value = refl; five = five; more = more }
