use Rattle.std.proofs.Common.{◌≡◌, List, [], sym, refl, subst, rules, tests}
use Rattle.std.proofs.lemmas.Iterator.{YieldsList-from_range, YieldsList-from_map}
use Rattle.std.proofs.lemmas.Iterator.Consumers.{YieldsList-from_filter}
use Rattle.rules.specs.Sending.{Outgoing, Sending}
use Rattle.rules.specs.Choice.{nth, waiting, since, Chosen}
use Rattle.rules.proofs.Choice.{Leads, found}
use Rattle.rules.proofs.SendAnswers.{chosen_is}
use Rattle.sender.proofs.Ranking.{waiting_row, run_items, first_leads, goes_first, each_so, match_so}
use Rattle.sender.proofs.packets.Packets.best.Goals as goal

pub returns : goal.returns
returns c =
    let ps : List Outgoing = c.args.self.now in
    let next : (S : Sending) → S.packets ≡ ps → Chosen S c.min_by_key.result = λ S e.
    let h = c.min_by_key.ensures.runs in
    found S c.min_by_key.result
    (subst (λ os. Leads os 128 c.min_by_key.result) (sym e)
    (first_leads h.0 ps c.min_by_key.result
    (run_items h.0 c.filter.result (waiting_row ps) h.1 h.2
    (YieldsList-from_filter _ (waiting ps) (YieldsList-from_map _ nth (YieldsList-from_range 0 128 128 (cc) refl) c.map.ensures.closure (λ x r q k. search rules)) c.filter.ensures.closure (λ x b q k. search (rules, tests))))
    (match_so _ c.min_by_key.result _ _
    (λ m q.
    let best = q.1 (λ a r f k. search rules) in
    (q.0, λ k. each_so (h.0.at k) _ _ (λ x z. goes_first m x (since ps m) (since ps x) best.0 z.0 (let call = best.1 in search (rules, call)) (let call = z.1 in search (rules, call)) z.2) (best.2 k)))
    h.3))) in
    let S : Sending = record { oldest = 0; window = []; packets = ps; last = [] } in
    record { next = next; row = chosen_is S c.min_by_key.result (next S refl) }
