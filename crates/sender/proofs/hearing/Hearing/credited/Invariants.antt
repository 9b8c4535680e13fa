use Rattle.std.proofs.Common.{◌≡◌, drop}
use Rattle.std.specs.Prelude.{fold}
use Rattle.std.specs.List.{enumerate_from}
use Rattle.sender.specs.Hearings.{tells, credit_step, credit_of}
use Rattle.sender.proofs.hearing.Hearing.credited.Given as goal

-- what is left to judge leads on to what all of them do
abbrev pub invariant-loop-k : goal.invariant-loop-k
invariant-loop-k l =
    fold (credit_step l.place (tells l.self) l.self.slot) l.after (enumerate_from l.k (drop l.k l.mark-items))
    ≡ credit_of l.place (tells l.self) l.self.slot l.mark-items l.initial.after
