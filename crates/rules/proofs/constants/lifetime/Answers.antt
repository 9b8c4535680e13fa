use Rattle.std.proofs.Common.{refl}
use Rattle.rules.proofs.Leaving.{leaves_by}
use Rattle.rules.proofs.constants.lifetime.Goals as goal

pub returns : goal.returns
returns c = record { value = refl; leaves = leaves_by }
