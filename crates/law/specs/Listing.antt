-- The worked listing as a run of ends over a channel, octet by octet.
use Rattle.law.specs.Samples.{good}
use Rattle.law.specs.Links.{State, Reached}

-- both ends log on; in slot 10 the ground accepts a packet of one octet and sends it, the air hands it up and reports, and the ground
-- learns that it is confirmed: some run of ends over a channel has exactly this log
abbrev pub ListingIsRun : Type 0
ListingIsRun = (s : State) × Reached (λ e. 0) s good
