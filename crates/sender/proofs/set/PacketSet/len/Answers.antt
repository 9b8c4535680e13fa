use Rattle.std.proofs.Common.{◌/◌, ◌%◌, refl, sym, ◌∙◌, rules, tests}
use Rattle.std.proofs.lemmas.List.{length-map}
use Rattle.std.proofs.lemmas.Iterator.{YieldsList-from_slice}
use Rattle.std.proofs.lemmas.Iterator.Consumers.{YieldsList-from_filter, count_from_yields_List}
use Rattle.sender.specs.Sets.{places_in}
use Rattle.sender.proofs.Sets.{count_marked}
use Rattle.sender.proofs.set.PacketSet.len.Goals as goal

pub returns : goal.returns
returns c =
    count_from_yields_List _ _ c.count.ensures.ran (YieldsList-from_filter _ (λ mark. mark) (YieldsList-from_slice c.args.self.marks cc) refl (λ x b q k. search (rules, tests)))
    ∙ count_marked 0 c.args.self.marks ∙ sym (length-map (places_in c.args.self) (λ p. (p / 4, p % 4)))
