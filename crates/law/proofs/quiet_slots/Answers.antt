use Rattle.std.proofs.Common.{refl}
use Rattle.law.proofs.Exhibits.{lost_and_sent_again, expires_and_gives_again}
use Rattle.law.proofs.NeededDelays.{delays_two}
use Rattle.law.proofs.NeededLoss.{keeps_its_bdu}
use Rattle.law.proofs.NeededRest.{free_at_expiry}
use Rattle.law.proofs.NeededReturn.{returned_after_one}
use Rattle.law.proofs.Trying.{samples}
use Rattle.law.proofs.quiet_slots.Goals as goal

pub returns : goal.returns
returns c = record {
  value = refl;
  samples = samples;
  again = lost_and_sent_again;
  expires = expires_and_gives_again;
  delays = delays_two;
  returned = returned_after_one;
  rests = free_at_expiry;
  loses = keeps_its_bdu;
}
