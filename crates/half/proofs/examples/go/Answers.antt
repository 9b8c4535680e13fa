use Rattle.sender.specs.Senders.{payload_of}
use Rattle.half.proofs.Known.{none_goes, octet_is, one_goes}
use Rattle.half.proofs.examples.go.Goals as goal

pub returns-in_default : goal.returns-in_default
returns-in_default g c = none_goes g.D.Number.Number c.args.count c.args.slot c.args.sender.now.holds c.choose.result c.in_default.not-Ok c.choose.ensures.rule

pub returns : goal.returns
returns g c =
    one_goes g.D.Number.Number c.args.count c.args.slot c.args.sender.now.holds c.send.new.self.holds c.in-Ok.next c.octet.result c.octet-2.result c.payload.result.now
    c.in-Ok.ensures.rule c.send.ensures c.octet.ensures
    (octet_is c.in-Ok.next.header (payload_of c.args.sender.now.holds c.in-Ok.next.header) c.octet-2.result c.octet-2.ensures c.in-Ok.ensures.fits) c.payload.ensures
