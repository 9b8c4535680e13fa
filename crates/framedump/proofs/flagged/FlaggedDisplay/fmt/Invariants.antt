use Rattle.std.proofs.Common.{take}
use Rattle.std.specs.Fmt.{HasWritten, IsPlainFormatter}
use Rattle.framedump.specs.Dumps.{flagged}
use Rattle.framedump.proofs.flagged.FlaggedDisplay.fmt.Given as goal

-- the flags so far are written
abbrev pub invariant-loop-step : goal.invariant-loop-step
invariant-loop-step g l =
    IsPlainFormatter l.initial.f → HasWritten g.W.Write.write_str_gives l.initial.f (flagged l.first (take l.step l.mark-items)) l.f
