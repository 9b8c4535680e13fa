use Rattle.std.proofs.Common.{ℕ, false, List, map, get_or, sym, ap, ◌∙◌, arith}
use Rattle.std.proofs.lemmas.List.{length-map, get_or-map, get_or_default}
use Rattle.rules.specs.Sending.{Outgoing, blank, is_whole, credit}
use Rattle.rules.specs.declared.window.Mark.{Mark}
use Rattle.rules.specs.declared.window.Progress.{Progress}
use Rattle.rules.proofs.Sweeps.{filled_more, filled_all}
use Rattle.sender.specs.Hearings.{tells, credit_of}
use Rattle.sender.specs.Packets.{packet_of, with_bdus}
use Rattle.sender.specs.declared.hearing.Hearing.{Hearing}
use Rattle.sender.specs.declared.packet.Packet.{Packet}
use Rattle.sender.proofs.Crediting.{packet_credited, length_credited}
use Rattle.sender.proofs.PacketRow.{nothing}
use Rattle.sender.proofs.packets.Packets.confirmed.Invariants.{whole_at}
use Rattle.sender.proofs.packets.Packets.confirmed.Goals as goal

pub loop-p-preserved : goal.loop-p-preserved
loop-p-preserved c =
    let h : Hearing = c.args.report.now in
    let ms : List Mark = c.args.window.now in
    let ps : List Packet = c.self.inside.all in
    let p : ℕ = c.loop-p.p in
    filled_more false (whole_at h ms ps) 16 p c.loop-p.marks c.is_whole_with.result c.loop-p.invariant (omega arith)
    (c.is_whole_with.ensures
    ∙ ap (λ (bdus : List Progress). is_whole (with_bdus bdus (packet_of (get_or ps p c.packet-item.result)))) c.credited.ensures
    ∙ ap (λ (x : Packet). is_whole (with_bdus (credit_of p (tells h) h.slot ms x.bdus) (packet_of x))) (get_or_default ps p c.packet-item.result nothing (omega arith))
    ∙ ap is_whole (sym (packet_credited (tells h) h.slot ms ps p)))

pub returns : goal.returns
returns c =
    let h : Hearing = c.args.report.now in
    let ms : List Mark = c.args.window.now in
    let ps : List Packet = c.self.inside.all in
    let cs : List Outgoing = credit (tells h) h.slot ms (map packet_of ps) in
    let n = length_credited (tells h) h.slot ms ps in
    let m = length-map cs is_whole in
    rw (← c.self.view_is)
    (filled_all false (whole_at h ms ps) 16 c.loop-p.p c.loop-p.marks c.loop-p.invariant (omega arith) (map is_whole cs) (omega arith) (λ k l. get_or-map is_whole cs k blank false (omega arith)))
