use Rattle.std.proofs.Common.{true, false, refl}
use Rattle.rules.specs.Examples.{long, full, one_gone, both_gone, key}
use Rattle.rules.specs.Sending.{Answer, new, piece}
use Rattle.rules.proofs.Examples.{more}
use Rattle.half.proofs.Known.{accepts, went}
use Rattle.half.proofs.examples.two_frames.Goals as goal

pub returns : goal.returns
returns g c =
    let a = accepts 2 100 long c.new-sender.result.holds new c.accept.new.self.holds c.accept.result c.new-sender.ensures c.accept.ensures.rule refl in
    let x = went 0 100 c.accept.new.self.holds full c.go-first.new.sender.holds one_gone c.go-first.result (Answer.Sent 0 (key 0) true (piece long 0)) a.1 c.go-first.ensures more.sends_first in
    let y = went 1 100 c.go-first.new.sender.holds one_gone c.go-second.new.sender.holds both_gone c.go-second.result (Answer.Sent 1 (key 1) false (piece long 1)) x.1 c.go-second.ensures more.sends_second in
    let first = x.0 in
    let second = y.0 in
    cc
