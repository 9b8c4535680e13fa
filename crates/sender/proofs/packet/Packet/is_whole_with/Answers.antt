use Rattle.std.proofs.Common.{◌≡◌, ℕ, Bool, not, ◌&&◌, leb, length, get_or, sym, ap, ◌∙◌, arith, rules, tests}
use Rattle.std.proofs.lemmas.Iterator.{YieldsList-from_slice, YieldsList-from_take}
use Rattle.std.proofs.lemmas.Iterator.Search.{all_from_yields_List}
use Rattle.rules.specs.Sending.{is_acked, first, pieces}
use Rattle.rules.specs.declared.window.Progress.{Progress}
use Rattle.sender.proofs.Firsts.{all_first}
use Rattle.sender.specs.Packets.{octets_of}
use Rattle.sender.proofs.packet.Packet.is_whole_with.Goals as goal

pub returns-then-is_pending : goal.returns-then-is_pending
returns-then-is_pending c =
    let bdus = c.args.bdus.now in
    let eight : length bdus ≡ 8 = search rules in
    let fits = c.args.self.now.fits in
    let acked : ℕ → Bool = λ n. leb n (first n (λ k. not (is_acked (get_or bdus k Progress.Waiting)))) in
    all_from_yields_List is_acked _ _ c.all.result c.all.ensures.ran (YieldsList-from_take c.count.result (YieldsList-from_slice bdus cc) cc) (λ x b q k. search (rules, tests))
    ∙ all_first is_acked Progress.Waiting bdus c.count.result (omega arith) ∙ ap acked c.count.ensures
    ∙ ap (λ b. b && acked (pieces (octets_of c.args.self.now))) (sym c.if-is_pending.true ∙ c.is_pending.ensures)
