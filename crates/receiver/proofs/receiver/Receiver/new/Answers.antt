use Rattle.std.proofs.Common.{false, replicate, map, ap, ◌∙◌, rules}
use Rattle.rules.specs.Receiving.{empty}
use Rattle.receiver.specs.Places.{place_of}
use Rattle.receiver.proofs.Fronts.{half}
use Rattle.rules.proofs.Made.{made_all}
use Rattle.receiver.proofs.Pieces.{nowhere}
use Rattle.receiver.proofs.receiver.Receiver.new.Goals as goal

pub returns : goal.returns
returns g c =
    ap (λ r. half r (replicate 8 false) (map place_of c.from_fn.result)) c.from_octet.ensures
    ∙ ap (half 0 (replicate 8 false)) (made_all place_of (λ _. empty) 16 nowhere c.from_fn.ensures.items (λ k y q l e. search rules))
