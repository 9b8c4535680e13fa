use Rattle.std.proofs.Common.{refl}
use Rattle.law.proofs.Linking.{link_keeps_laws}
use Rattle.law.proofs.Listing.{listing_is_run}
use Rattle.law.proofs.Splits.{last_one, apart}
use Rattle.law.proofs.delays.Goals as goal

pub returns : goal.returns
returns c = record { value = refl; law = link_keeps_laws; last = last_one; apart = apart; listing = listing_is_run }
