-- The log of a run of two ends over a channel: what happened, newest first, and what both ends show after it.
use Rattle.std.specs.Prelude.{◌≡◌, ℕ, Bool, List}

pub data End : Type 0 where
  Ground Air : End

abbrev pub other : End → End
other End.Ground = End.Air
other End.Air = End.Ground

-- a log-on is an aircraft with a number; a new end has 0 and 0
pub record LogOn : Type 0 where
  pub aircraft : ℕ
  pub number : ℕ

-- a frame as the end that it is brought to reads it: data or a report for that end, under a log-on; or anything else
pub data Frame : Type 0 where
  Data : LogOn → Frame
  Report : LogOn → Frame
  Foreign : Frame

-- what a bring answers; a report's answer lists the Q and RN that it confirms
pub data Answer : Type 0 where
  Held : Answer
  Packet : ℕ → ℕ → List ℕ → Answer
  Confirmed : List (ℕ × ℕ) → Answer
  Refused : ℕ → Answer

-- Accepted has Q, RN and the packet's octets, Sent the octets of a data frame, Reported those of a report; Quiet is a call that changed nothing: a refusal, or an answer of none
pub data Event : Type 0 where
  LoggedOn : End → Event
  Ticked : Event
  Accepted : End → ℕ → ℕ → List ℕ → Event
  Sent : End → List ℕ → Event
  Reported : End → List ℕ → Event
  Brought : End → Frame → Answer → Event
  Quiet : Event

-- what an end shows: its log-on, A, which of A+1 to A+8 are acknowledged, R, and the flags of R+1 to R+8
pub record Shown : Type 0 where
  pub log_on : LogOn
  pub oldest : ℕ
  pub acknowledged : List Bool
  pub awaits : ℕ
  pub flags : List Bool

-- an event, with the slot in which it happened and what both ends show after it
pub record Entry : Type 0 where
  pub slot : ℕ
  pub event : Event
  pub at_ground : Shown
  pub at_air : Shown

abbrev pub shown : End → Entry → Shown
shown End.Ground x = x.at_ground
shown End.Air x = x.at_air

-- the end e holds the log-on l, after x; only LoggedOn changes that
abbrev pub Holds : End → LogOn → Entry → Type 0
Holds e l x = (shown e x).log_on ≡ l

abbrev pub Log : Type 0
Log = List Entry
