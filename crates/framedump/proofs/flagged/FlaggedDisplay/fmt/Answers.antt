use Rattle.std.proofs.Common.{◌+◌, ◌%◌, length, ap, refl, append-nil, arith}
use Rattle.std.proofs.lemmas.Grind.{put_two}
use Rattle.framedump.proofs.Marks.{flagged_more}
use Rattle.framedump.proofs.flagged.FlaggedDisplay.fmt.Goals as goal
use Rattle.framedump.proofs.flagged.FlaggedDisplay.fmt.Goals.{then-mark+in_ok-write, else-mark}

pub loop-step-preserved : goal.loop-step-preserved
loop-step-preserved g c = λ p.
    let before = c.loop-step.invariant p in
    let first = (c.args.self.now.oldest + 1) % 256 in
    let more = flagged_more c.marks-marks.result c.loop-step.step first (omega arith) (omega (arith, ap length c.marks-marks.ensures)) in
    elim c.if-mark.branch [
      | then-mark+in_ok-write w ↦
          let longer = rw w.if-mark.true at more in
          rw w.f-is (put_two g.W.Write.write_str_gives _ _ _ _ _ _ before (w.in_ok-write.ensures.writes before.plain refl) longer)
      | else-mark w ↦ let same = rw (w.if-mark.false, append-nil) at more in rw (w.f-is, ← same) before
    ]
