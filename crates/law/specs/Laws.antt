-- What a log keeps to: the service, for somebody who sends packets over the link.
use Rattle.std.specs.Prelude.{◌≡◌, ℕ, ◌+◌, ◌≤◌, List, [], ◌∷◌, ◌++◌, ◌≢◌}
use Rattle.rules.specs.Members.{Among}
use Rattle.law.specs.Log.{End, other, LogOn, Frame, Answer, Event, Entry, shown, Holds, Log}

-- the end e, under the log-on l, accepts a packet: it takes Q and answers RN
abbrev pub Accepts : End → LogOn → ℕ → ℕ → List ℕ → Entry → Type 0
Accepts e l q rn octets x = (x.event ≡ Event.Accepted e q rn octets) × Holds e l x

-- the end e, under the log-on l, hands a packet up
abbrev pub HandsUp : End → LogOn → ℕ → ℕ → List ℕ → Entry → Type 0
HandsUp e l q rn octets x = ((frame : Frame) × (x.event ≡ Event.Brought e frame (Answer.Packet q rn octets))) × Holds e l x

-- the end e, under the log-on l, learns that the packet of this Q and RN is confirmed
abbrev pub Confirms : End → LogOn → ℕ → ℕ → Entry → Type 0
Confirms e l q rn x = ((frame : Frame) × (packets : List (ℕ × ℕ)) × (x.event ≡ Event.Brought e frame (Answer.Confirmed packets)) × Among (q, rn) packets) × Holds e l x

-- the end e, under the log-on l, sends a data frame
abbrev pub Sends : End → LogOn → Entry → Type 0
Sends e l x = ((octets : List ℕ) × (x.event ≡ Event.Sent e octets)) × Holds e l x

-- the end e, under the log-on l, is brought a report of l and answers so
abbrev pub Hears : End → LogOn → Answer → Entry → Type 0
Hears e l answer x = (x.event ≡ Event.Brought e (Frame.Report l) answer) × Holds e l x

-- the last packet that the end e accepted under l with this Q and RN: what is newer than its accept has no other one
pub record LastAccept (e : End) (l : LogOn) (q rn : ℕ) (log : Log) : Type 0 where
  pub newer : Log
  pub accept : Entry
  pub older : Log
  pub octets : List ℕ
  pub splits : log ≡ newer ++ accept ∷ older
  pub accepts : Accepts e l q rn octets accept
  pub last : (x : Entry) (xs : List ℕ) → Among x newer → Accepts e l q rn xs x → ⊥

-- (a) a packet of the end e that the other end hands up is the last one that e accepted under that log-on with that Q and RN, octet for octet, and was not handed up before
pub record Paired (e : End) (l : LogOn) (q rn : ℕ) (octets : List ℕ) (log : Log) : Type 0 where
  pub from : LastAccept e l q rn log
  pub same : from.octets ≡ octets
  pub once : (x : Entry) (xs : List ℕ) → Among x from.newer → HandsUp (other e) l q rn xs x → ⊥

-- (b) a packet that is confirmed at the end e is the last one that it accepted under that log-on with that Q and RN, and the other end has handed it up
pub record Arrived (e : End) (l : LogOn) (q rn : ℕ) (log : Log) : Type 0 where
  pub from : LastAccept e l q rn log
  pub hand_up : Entry
  pub since : Among hand_up from.newer
  pub hands_up : HandsUp (other e) l q rn from.octets hand_up

-- every data frame of the end e under l was sent two slots or more before the slot now
abbrev pub QuietSince : End → LogOn → Log → ℕ → Type 0
QuietSince e l log now = (x : Entry) → Among x log → Sends e l x → x.slot + 2 ≤ now

-- (c) the report was not refused, and the end e and the other one agree: A is the other's R, and what is acknowledged above A is what the other's flags name
pub record Agree (e : End) (answer : Answer) (x : Entry) : Type 0 where
  pub taken : (n : ℕ) → answer ≢ Answer.Refused n
  pub oldest : (shown e x).oldest ≡ (shown (other e) x).awaits
  pub acknowledged : (shown e x).acknowledged ≡ (shown (other e) x).flags

-- the entry x is right, after the log, for the packets of the end e under the log-on l
pub record Right (e : End) (l : LogOn) (x : Entry) (log : Log) : Type 0 where
  pub hand_ups : (q rn : ℕ) (octets : List ℕ) → HandsUp (other e) l q rn octets x → Paired e l q rn octets log
  pub confirms : (q rn : ℕ) → Confirms e l q rn x → Arrived e l q rn log
  pub reports : (answer : Answer) → Hears e l answer x → Holds (other e) l x → QuietSince e l log x.slot → Agree e answer x

-- every entry is right, after what is older
abbrev pub Keeps : End → LogOn → Log → Type 0
Keeps e l [] = Unit {0}
Keeps e l (x ∷ older) = Right e l x older × Keeps e l older

-- the law of a log
abbrev pub Laws : Log → Type 0
Laws log = (e : End) (l : LogOn) → Keeps e l log
