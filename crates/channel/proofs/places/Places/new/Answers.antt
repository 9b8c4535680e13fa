use Rattle.std.proofs.Common.{None, rules}
use Rattle.rules.proofs.Made.{made_all}
use Rattle.channel.specs.Places.{place_of}
use Rattle.channel.proofs.places.Places.new.Goals as goal

pub returns : goal.returns
returns c = made_all place_of (λ _. None) 16 None c.from_fn.ensures.items (λ k y q l e. search rules)
