use Rattle.std.proofs.Common.{None, ap, rules}
use Rattle.receiver.specs.Places.{piece_of}
use Rattle.rules.proofs.Made.{made_all}
use Rattle.receiver.proofs.place.Place.new.Goals as goal

pub returns : goal.returns
returns c =
    ap (λ ps. record { opened = 0; pieces = ps; last = None }) (made_all piece_of (λ _. None) 8 None c.from_fn.ensures.items (λ k y q l e. search rules))
