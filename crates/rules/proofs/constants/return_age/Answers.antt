use Rattle.std.proofs.Common.{refl}
use Rattle.rules.proofs.OneState.{one_state_each}
use Rattle.rules.proofs.constants.return_age.Goals as goal

pub returns : goal.returns
returns c = record { value = refl; state = one_state_each }
