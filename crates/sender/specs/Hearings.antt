-- What a report makes of the numbers of a window, and of their BDUs.
use Rattle.std.specs.Prelude.{ℕ, Bool, true, false, cond, List, Some, None, Option, ◌==◌, fold, slice_index_or, slice_set}
use Rattle.std.specs.List.{enumerate_from}
use Rattle.sender.specs.declared.mark.Verdict.{Verdict}
use Rattle.sender.specs.declared.hearing.Hearing.{Hearing}
use Rattle.rules.specs.Sending.{Outgoing, place, told, judged, is_old, moved}
use Rattle.rules.specs.declared.window.BduKey.{BduKey}
use Rattle.rules.specs.declared.window.Mark.{Mark}
use Rattle.rules.specs.declared.window.Progress.{Progress}

-- the BDU that moves on with its number, told of or old, and how far it is then
abbrev pub moved_by : Mark → Bool → Bool → Option (BduKey × Progress)
moved_by Mark.Unused tell old = None
moved_by (Mark.OnItsWay slot None) tell old = None
moved_by (Mark.OnItsWay slot (Some b)) true old = Some (b, Progress.Acknowledged)
moved_by (Mark.OnItsWay slot (Some b)) false true = Some (b, Progress.Waiting)
moved_by (Mark.OnItsWay slot (Some b)) false false = None
moved_by Mark.Acknowledged tell old = None
moved_by Mark.Returned tell old = None

-- the packets after it moved on
abbrev pub moved_on : Option (BduKey × Progress) → List Outgoing → List Outgoing
moved_on None ps = ps
moved_on (Some m) ps = moved m.0 m.1 ps

abbrev pub verdict : Mark → Bool → Bool → Verdict
verdict mark tell old = record { mark = judged mark tell old; moved = moved_by mark tell old }

-- the report acknowledges the entry k of the window
abbrev pub tells : Hearing → ℕ → Bool
tells h = told h.gap (λ i. slice_index_or h.flags i false)

-- a BDU that moves on does so, if it is one of the packet at this place
abbrev pub step : ℕ → Option (BduKey × Progress) → List Progress → List Progress
step p None bdus = bdus
step p (Some m) bdus = cond (place m.0 == p) (slice_set bdus m.0.bsn m.1) bdus

-- how far the BDUs of the packet at a place are after one number more is judged, which is given with its place in the window
abbrev pub credit_step : ℕ → (ℕ → Bool) → ℕ → List Progress → ℕ × Mark → List Progress
credit_step p tell now bdus m = step p (moved_by m.1 (tell m.0) (is_old now m.1)) bdus

-- and after all of them
abbrev pub credit_of : ℕ → (ℕ → Bool) → ℕ → List Mark → List Progress → List Progress
credit_of p tell now ms bdus = fold (credit_step p tell now) bdus (enumerate_from 0 ms)
