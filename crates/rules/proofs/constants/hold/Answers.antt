use Rattle.std.proofs.Common.{refl}
use Rattle.rules.proofs.ReceivingLaws.{never_whole, bring_answers}
use Rattle.rules.proofs.constants.hold.Goals as goal

pub returns : goal.returns
returns c = record { value = refl; partial = never_whole; answers = bring_answers }
