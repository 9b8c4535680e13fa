-- What the reading of a frame stands on.
use Rattle.frame.proofs.Departures.{one_place}
use Rattle.frame.proofs.Misfits.{kind_wrong}
use Rattle.frame.proofs.Octets.{report_rewritten}

pub ruleset reading = (kind_wrong, one_place, report_rewritten)
