use Rattle.std.proofs.Common.{refl}
use Rattle.rules.proofs.Choice.{finds_next}
use Rattle.rules.proofs.SendAnswers.{one_answer, some_answer}
use Rattle.rules.proofs.constants.frames_a_slot.Goals as goal

pub returns : goal.returns
returns c = record { value = refl; one = one_answer; some = some_answer; found = finds_next }
