use Rattle.std.proofs.Common.{◌≡◌, ◌<◌, false, length, sym, ap, ◌∙◌, arith}
use Rattle.std.proofs.lemmas.Bool.{leb-false}
use Rattle.channel.specs.WaitingLines.{line_in, is_full, pushed}
use Rattle.channel.proofs.Rings.{length_waiting, line_after_push}
use Rattle.channel.proofs.line.WaitingLine.push.Goals as goal

-- a place is free, and the entry is written behind the last one
pub returns-clause-line : goal.returns-clause-line
returns-clause-line g c =
    let l = c.self.inside in
    let not_full : is_full (line_in l.first l.count l.room.now) ≡ false = ap is_full c.self.view_is ∙ sym c.is_full.ensures ∙ c.if-is_full.false in
    let long = length_waiting l.room.now l.first l.count (omega arith) in
    let free : l.count < length l.room.now = omega (arith, leb-false _ _ not_full) in
    rw (c.place_behind-place.ensures, line_after_push l.room.now l.first l.count (omega arith) c.args.item free) (ap (pushed c.args.item) c.self.view_is)
