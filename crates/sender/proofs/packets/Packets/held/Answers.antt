use Rattle.std.proofs.Common.{◌∙◌, false, map, List, get_or, ap, refl, arith}
use Rattle.std.proofs.lemmas.List.{length-map, get_or-map, get_or_default}
use Rattle.rules.specs.Sending.{Outgoing, blank}
use Rattle.rules.proofs.Sweeps.{filled_more, filled_all}
use Rattle.sender.specs.Packets.{packet_of}
use Rattle.sender.specs.Standings.{standing_of}
use Rattle.sender.specs.declared.packet.Packet.{Packet}
use Rattle.sender.proofs.PacketRow.{nothing}
use Rattle.sender.proofs.packets.Packets.held.Goals as goal

pub loop-p-init : goal.loop-p-init
loop-p-init g c = λ test says. record { long = refl; done = λ k l. absurd (omega arith) }

pub loop-p-preserved : goal.loop-p-preserved
loop-p-preserved g c = λ test says.
    let ps : List Packet = c.self.inside.all in
    filled_more false (λ k. test (standing_of (get_or ps k nothing).standing)) 16 c.loop-p.p c.loop-p.marks _ (c.loop-p.invariant test says) (omega arith)
    (says _ _ c.asked.ensures ∙ ap (λ (p : Packet). test (standing_of p.standing)) (get_or_default ps c.loop-p.p c.packet-item.result nothing (omega arith)))

pub returns : goal.returns
returns g c = λ test says.
    let ps : List Packet = c.self.inside.all in
    let os : List Outgoing = map packet_of ps in
    let n = length-map ps packet_of in
    let m = length-map os (λ (o : Outgoing). test o.standing) in
    rw (← c.self.view_is)
    (filled_all false (λ k. test (standing_of (get_or ps k nothing).standing)) 16 c.loop-p.p c.loop-p.marks (c.loop-p.invariant test says) (omega arith) (map (λ (o : Outgoing). test o.standing) os) (omega arith)
    (λ k l. get_or-map (λ (o : Outgoing). test o.standing) os k blank false (omega arith) ∙ ap (λ (o : Outgoing). test o.standing) (get_or-map packet_of ps k nothing blank (omega arith))))
