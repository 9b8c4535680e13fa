use Rattle.std.proofs.Common.{false, [], ◌∷◌, refl}
use Rattle.rules.specs.Examples.{loaded, gone, key}
use Rattle.rules.specs.Sending.{Sending, Answer, new}
use Rattle.half.proofs.Chains.{returned, again, goes, waits, goes_again}
use Rattle.half.proofs.Known.{accepts, went, hears}
use Rattle.half.proofs.examples.send_again.Goals as goal

pub returns : goal.returns
returns g c =
    let S0 : Sending = c.new-sender.result.holds in
    let S1 : Sending = c.accept.new.self.holds in
    let S2 : Sending = c.go.new.sender.holds in
    let S3 : Sending = c.hear.new.self.holds in
    let S4 : Sending = c.go-early.new.sender.holds in
    let S5 : Sending = c.hear-2.new.self.holds in
    let S6 : Sending = c.go-late.new.sender.holds in
    let R = g.D.Number.Number.value c.from_octet.result in
    let a = accepts 2 10 (65 ∷ []) S0 new S1 c.accept.result c.new-sender.ensures c.accept.ensures.rule refl in
    let b = went 0 10 S1 (loaded 10) S2 (gone 10) c.go.result (Answer.Sent 0 (key 0) false (65 ∷ [])) a.1 c.go.ensures (goes 10) in
    let d = hears R 11 0 0 S2 (gone 10) S3 c.hear.result b.1 c.from_octet.ensures c.hear.ensures.answer c.hear.ensures.rule refl in
    let e = went 0 11 S3 (gone 10) S4 (gone 10) c.go-early.result Answer.NoneIdle d c.go-early.ensures waits in
    let f = hears R 12 0 0 S4 (gone 10) S5 c.hear-2.result e.1 c.from_octet.ensures c.hear-2.ensures.answer c.hear-2.ensures.rule refl in
    let h = went 0 12 S5 returned S6 again c.go-late.result (Answer.Sent 0 (key 0) false (65 ∷ [])) f c.go-late.ensures goes_again in
    let early = e.0 in
    let late = h.0 in
    cc
