-- Runs of two ends over a channel, by the rules of ends and the meaning of channels, and the law of the link for all of them.
use Rattle.std.specs.Prelude.{◌≡◌, ℕ, ◌+◌, ◌^◌, ◌<◌, ◌≤◌, cond, List, [], ◌∷◌, map, Ok, Err, Result}
use Rattle.frame.specs.declared.kind.Way.{Way}
use Rattle.frame.specs.declared.kind.Way.TheVariants.{Up, Down}
use Rattle.std.specs.List.{range_with_len}
use Rattle.rules.specs.Constants.{delays}
use Rattle.rules.specs.Ends.{Sent, Brought, Reading, LogsOn, Slots, Accepts, SendsFrame, ReportsFrame, Brings, new, opposite, same_way}
use Rattle.rules.specs.Ends as rules
use Rattle.frame.specs.Reasons.{number_of}
use Rattle.rules.specs.Refusals.{refusal_of}
use Rattle.rules.specs.Sending.{is_acknowledged, mark}
use Rattle.rules.specs.declared.fault.EndFault.{EndFault}
use Rattle.law.specs.Log.{End, other, LogOn, Frame, Answer, Event, Shown, Entry, Log}
use Rattle.law.specs.Laws.{Laws}
use Rattle.law.specs.Channels.{Channel, Underway, Moves, Puts, Gives, GivesNone}

-- two ends and the channel between them
pub record State : Type 0 where
  pub ends : End → rules.End
  pub channel : Channel

-- the way that an end sends
abbrev pub way : End → Way
way End.Ground = Up
way End.Air = Down

-- ## what the log says

-- an end's log-on
abbrev pub held : rules.End → LogOn
held e = record { aircraft = e.aircraft; number = e.log_on }

-- what an end shows
abbrev pub shows : rules.End → Shown
shows e = record {
  log_on = held e;
  oldest = e.sends.oldest;
  acknowledged = map (λ i. is_acknowledged (mark e.sends (1 + i))) (range_with_len 0 8);
  awaits = e.receives.oldest;
  flags = e.receives.flags;
}

-- an event with the slot, and what both ends show after it
abbrev pub entry : State → Event → Entry
entry s event = record { slot = s.channel.clock; event = event; at_ground = shows (s.ends End.Ground); at_air = shows (s.ends End.Air) }

-- what came of each call; a refusal, or a send of none, is quiet
abbrev pub logged_on : {A : Type 0} → End → Result A EndFault → Event
logged_on x (Ok cut_off) = Event.LoggedOn x
logged_on x (Err fault) = Event.Quiet

abbrev pub accepted : End → ℕ → List ℕ → Result ℕ EndFault → Event
accepted x q octets (Ok rn) = Event.Accepted x q rn octets
accepted x q octets (Err fault) = Event.Quiet

abbrev pub sent : End → Result Sent EndFault → Event
sent x (Ok Sent.NoneIdle) = Event.Quiet
sent x (Ok Sent.NoneFull) = Event.Quiet
sent x (Ok Sent.NoneShut) = Event.Quiet
sent x (Ok (Sent.Frame octets)) = Event.Sent x octets
sent x (Err fault) = Event.Quiet

abbrev pub reported : End → Result (List ℕ) EndFault → Event
reported x (Ok octets) = Event.Reported x octets
reported x (Err fault) = Event.Quiet

-- a frame as the end x reads it: data of the other way, a report on its own, or anything else
abbrev pub seen : End → Reading → Frame
seen x (Reading.Torn place) = Frame.Foreign
seen x (Reading.Data w aircraft number n u) = cond (same_way (opposite (way x)) w) (Frame.Data (record { aircraft = aircraft; number = number })) Frame.Foreign
seen x (Reading.Report w aircraft number R flags) = cond (same_way (way x) w) (Frame.Report (record { aircraft = aircraft; number = number })) Frame.Foreign

abbrev pub answered : Result Brought EndFault → Answer
answered (Ok Brought.Held) = Answer.Held
answered (Ok (Brought.Packet q rn octets)) = Answer.Packet q rn octets
answered (Ok (Brought.Confirmed packets)) = Answer.Confirmed packets
answered (Err fault) = Answer.Refused (number_of (refusal_of fault).reason)

-- ## the steps

-- the end x is now e, and the other is as it was
abbrev pub Only : State → End → rules.End → State → Type 0
Only s x e s' = (s'.ends x ≡ e) × (s'.ends (other x) ≡ s.ends (other x))

-- a frame that was written is put on the lane; else the channel is as it was
abbrev pub SendPuts : Channel → Channel → End → Result Sent EndFault → Type 0
SendPuts c c' x (Ok Sent.NoneIdle) = c' ≡ c
SendPuts c c' x (Ok Sent.NoneFull) = c' ≡ c
SendPuts c c' x (Ok Sent.NoneShut) = c' ≡ c
SendPuts c c' x (Ok (Sent.Frame octets)) = Puts c c' x octets
SendPuts c c' x (Err fault) = c' ≡ c

abbrev pub ReportPuts : Channel → Channel → End → Result (List ℕ) EndFault → Type 0
ReportPuts c c' x (Ok octets) = Puts c c' x octets
ReportPuts c c' x (Err fault) = c' ≡ c

-- a step from s to s', and what came of it; log-on numbers have four octets. A refused slot reaches neither end nor the channel
pub data Step (delay : End → ℕ) (s s' : State) : Event → Type 0 where
  log_on : (x : End) (aircraft number : ℕ) → number < 2 ^ 32 → (r : Result (List (ℕ × ℕ)) EndFault) (e : rules.End)
      → LogsOn (s.ends x) aircraft number r e → Only s x e s' → s'.channel ≡ s.channel → Step delay s s' (logged_on x r)
  accept : (x : End) (q : ℕ) (octets : List ℕ) (r : Result ℕ EndFault) (e : rules.End)
      → Accepts (s.ends x) q octets r e → Only s x e s' → s'.channel ≡ s.channel → Step delay s s' (accepted x q octets r)
  slot : (slot : ℕ) → ((e : End) → (gone : List (ℕ × ℕ)) × Slots (s.ends e) slot (Ok gone) (s'.ends e)) → Moves s.channel s'.channel slot
      → Step delay s s' Event.Ticked
  slot_refused : (slot : ℕ) (x : End) (fault : EndFault) → Slots (s.ends x) slot (Err fault) (s.ends x) → s' ≡ s → Step delay s s' Event.Quiet
  send : (x : End) (room : ℕ) (r : Result Sent EndFault) (e : rules.End)
      → SendsFrame (way x) (s.ends x) room r e → Only s x e s' → SendPuts s.channel s'.channel x r → Step delay s s' (sent x r)
  report : (x : End) (room : ℕ) (r : Result (List ℕ) EndFault) (e : rules.End)
      → ReportsFrame (way x) (s.ends x) room r e → Only s x e s' → ReportPuts s.channel s'.channel x r → Step delay s s' (reported x r)
  take_none : (x : End) → ((e : End) → s'.ends e ≡ s.ends e) → GivesNone s.channel s'.channel → Step delay s s' Event.Quiet
  take : (x : End) (f : Underway) (room : ℕ) (r : Result Brought EndFault) (e : rules.End) → Gives s.channel s'.channel delay x f
      → (b : Brings (way x) (s.ends x) f.octets room r e) → Only s x e s' → Step delay s s' (Event.Brought x (seen x b.0) (answered r))

-- the states and logs that runs come to: new ends, an empty channel at clock 0, and then steps
pub data Reached (delay : End → ℕ) : State → Log → Type 0 where
  begun : (s : State) → ((e : End) → s.ends e ≡ new) → s.channel.clock ≡ 0 → ((e : End) → s.channel.lane e ≡ []) → Reached delay s []
  went : {s : State} {log : Log} → Reached delay s log → (s' : State) (event : Event) → Step delay s s' event → Reached delay s' (entry s' event ∷ log)

-- THE LAW OF THE LINK: the log of every run is right, for every list of steps, refused ones among them, and whatever the channel does
-- within its meaning, where the delays of its two lanes add up to at most 1
abbrev pub LinkKeepsLaws : Type 0
LinkKeepsLaws = (delay : End → ℕ) → delay End.Ground + delay End.Air ≤ delays → (s : State) (log : Log) → Reached delay s log → Laws log
