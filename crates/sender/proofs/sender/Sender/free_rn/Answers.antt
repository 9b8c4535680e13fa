use Rattle.std.proofs.Common.{ℕ, ◌+◌, ◌*◌, Bool, refl, rules, tests}
use Rattle.std.proofs.lemmas.Iterator.{YieldsList-from_range, YieldsList-from_map}
use Rattle.std.proofs.lemmas.Iterator.Search.{find_from_yields_List}
use Rattle.rules.specs.Sending.{Sending, is_free, packet, turn}
use Rattle.sender.proofs.Firsts.{first_mapped}
use Rattle.sender.proofs.sender.Sender.free_rn.Goals as goal

pub returns : goal.returns
returns g c =
    let S : Sending = c.args.self.now.holds in
    let free : ℕ → Bool = λ rn. is_free (packet S (4 * c.args.q + rn)).standing in
    first_mapped free (turn S c.args.q) 4 c.find.result
    (find_from_yields_List free _ _ c.find.result c.find.ensures.ran (YieldsList-from_map _ (turn S c.args.q) (YieldsList-from_range 0 4 4 (cc) refl) c.map.ensures.closure (λ x r q k. search rules)) (λ x b q k. search (rules, tests)))
