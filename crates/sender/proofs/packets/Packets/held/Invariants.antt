use Rattle.std.proofs.Common.{◌≡◌, Bool, false, get_or}
use Rattle.sender.specs.declared.standing.Tenure.{Tenure}
use Rattle.sender.specs.Standings.{standing_of}
use Rattle.rules.specs.declared.window.Standing.{Standing}
use Rattle.sender.proofs.PacketRow.{nothing}
use Rattle.rules.proofs.Sweeps.{Filled}
use Rattle.sender.proofs.packets.Packets.held.Given as goal

abbrev pub invariant-loop-p : goal.invariant-loop-p
invariant-loop-p g l =
    (test : Standing → Bool) → ((t : Tenure) (r : Bool) → g.F.Fn.post l.asked (t, tt) r → r ≡ test (standing_of t))
    → Filled false (λ k. test (standing_of (get_or l.packet-items k nothing).standing)) 16 l.p l.marks
