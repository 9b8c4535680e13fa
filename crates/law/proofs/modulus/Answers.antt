use Rattle.std.proofs.Common.{refl}
use Rattle.law.proofs.ReceivingFollows.{follows}
use Rattle.law.proofs.SendingRules.{sending_tied}
use Rattle.law.proofs.Sound.{link_sound}
use Rattle.law.proofs.modulus.Goals as goal

pub returns : goal.returns
returns c = record { value = refl; sound = link_sound; receiving = follows; sending = sending_tied }
