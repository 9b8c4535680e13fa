use Rattle.std.proofs.Common.{sym, ap, subst, refl, arith}
use Rattle.rules.specs.Choice.{Chosen}
use Rattle.rules.specs.Sending.{Sending}
use Rattle.sender.proofs.Answering.{chosen_sends, chosen_fits}
use Rattle.sender.proofs.sender.Sender.choose.Goals as goal

pub returns-in_default-clause-rule : goal.returns-in_default-clause-rule
returns-in_default-clause-rule g c =
    let next = subst (Chosen c.args.self.now.holds) c.in_ok-bdu.ensures.ok_part c.next.ensures in
    λ now. ((λ i. i c.in_ok-bdu.bdu next.0 next.1.here), omega arith, rw (← ap (λ V. V.holds) c.self.view_is) c.in_default.ensures, refl)

pub returns : goal.returns
returns g c =
    let S : Sending = record {
      oldest = g.D.Number.Number.value c.self.inside.oldest;
      window = c.self.inside.window;
      packets = c.self.inside.packets;
      last = c.self.inside.last;
    } in
    let next = subst (λ x. Chosen x c.next.result) (sym (ap (λ V. V.holds) c.self.view_is)) c.next.ensures in
    let here = subst (Chosen S) c.in_ok-bdu.ensures.ok_part next in
    let b = c.in_ok-bdu.bdu in
    rw (← ap (λ V. V.holds) c.self.view_is)
    (record {
      rule =
          chosen_sends S b c.header.result c.args.count _ c.in-Some.entry here (omega arith) c.in-Some.ensures.0 c.in-Some.ensures.1 c.advance.ensures c.header.ensures.header;
      fits = chosen_fits S b here.0 c.header.result here.1.here c.header.ensures.long c.header.ensures.header;
    })
