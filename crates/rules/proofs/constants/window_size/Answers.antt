use Rattle.std.proofs.Common.{refl}
use Rattle.rules.proofs.Refusing.{test_decides}
use Rattle.rules.proofs.Unused.{unused_last}
use Rattle.rules.proofs.constants.window_size.Goals as goal

pub returns : goal.returns
returns c = record { value = refl; unused = unused_last; decides = test_decides }
