use Rattle.std.proofs.Common.{refl, arith}
use Rattle.std.proofs.lemmas.Grind.{put_two}
use Rattle.forms.proofs.OctetTexts.{text_more, text_whole}
use Rattle.forms.proofs.octets.OctetsDisplay.fmt.Goals as goal

pub loop-octet-preserved : goal.loop-octet-preserved
loop-octet-preserved g c = λ p.
    let before = c.loop-octet.invariant p in
    let space = c.in_ok-write_str.ensures.writes before.plain refl in
    let octet = c.in_ok-write_octet-2.ensures space.plain refl in
    let both = put_two g.W.Write.write_str_gives _ _ _ _ _ _ space octet refl in
    put_two g.W.Write.write_str_gives _ _ _ _ _ _ before both (text_more _ c.loop-octet.octet-index c.loop-octet-test.true)

pub returns-clause-writes : goal.returns-clause-writes
returns-clause-writes g c = λ p _.
    let first = c.in_ok-write_octet.ensures p refl in
    put_two g.W.Write.write_str_gives _ _ _ _ _ _ first (c.loop-octet.invariant first.plain) (text_whole c.args.self.now.0.now c.loop-octet.octet-index (omega arith) c.loop-octet-test.false)
