use Rattle.std.proofs.Common.{◌≡◌, Ok, sym, ap, subst}
use Rattle.rules.specs.Sending.{Sending}
use Rattle.sender.specs.Senders.{hearing_of}
use Rattle.sender.proofs.Answering.{foretold, heard_is}
use Rattle.sender.proofs.sender.Sender.hear.Goals as goal

pub returns : goal.returns
returns g c =
    let R = g.D.Number.Number.value c.args.report.oldest in
    let octet = c.args.report.flags.octet in
    let S : Sending = record {
      oldest = g.D.Number.Number.value c.self.inside.oldest;
      window = c.self.inside.window;
      packets = c.self.inside.packets;
      last = c.self.inside.last;
    } in
    let hearing = subst (λ x. c.hearing-hearing.result ≡ hearing_of R octet c.args.slot x) (sym (ap (λ V. V.holds) c.self.view_is)) c.hearing-hearing.ensures in
    rw (← ap (λ V. V.holds) c.self.view_is)
    (record {
      answer = foretold c.hearing-hearing.result R octet c.args.slot S (Ok c.in_ok-confirmed.confirmed) hearing c.in_ok-confirmed.ensures;
      rule =
          heard_is S R octet c.args.slot c.lead-by.result _ c.judge.new.self c.shift.new.self _ c.hearing-hearing.result hearing
          c.settle.ensures c.judge.ensures c.lead-by.ensures.found c.shift.ensures c.advance-self-inside.ensures;
      kept = tt;
    })
