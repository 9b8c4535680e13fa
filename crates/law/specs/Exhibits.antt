-- Two runs that are there: a BDU is lost and sent again under another number, and a packet expires and its reference number is given again.
use Rattle.std.specs.Prelude.{◌≡◌, ℕ, Bool, true, false, ◌⊎◌, List, [], ◌∷◌, ◌++◌, drop, replicate}
use Rattle.frame.specs.declared.header.BduHeader.{BduHeader}
use Rattle.frame.specs.declared.kind.Way.TheVariants.{Up}
use Rattle.frame.specs.Flags.{flags_octet}
use Rattle.frame.specs.Writing.{data_octets, report_octets}
use Rattle.rules.specs.Sending.{passed, expired}
use Rattle.rules.specs.Members.{Among}
use Rattle.law.specs.Log.{End, Frame, Answer, Event, Shown, Entry, Log}
use Rattle.law.specs.Laws.{Accepts, HandsUp, Confirms}
use Rattle.law.specs.Samples.{on, off, end, entry}
use Rattle.law.specs.World.{World}
use Rattle.law.specs.WorldSteps.{Reached}
use Rattle.law.specs.LinkRuns.{Sender, rules}

-- ## what both runs share

-- no lane delays a frame: one that is not brought in its slot is lost
abbrev pub still : End → ℕ
still e = 0

abbrev pub Run : World Sender → Log → Type 0
Run = Reached Sender rules still

-- some entry of the log is so
abbrev pub Has : (Entry → Type 0) → Log → Type 0
Has P log = (x : Entry) × Among x log × P x

-- on its way the run had this log, with a world that is so
abbrev pub Passes : (World Sender → Type 0) → Log → {W : World Sender} {log : Log} → Run W log → Type 0
Passes P then (Reached.begun W clock ends lanes) = (then ≡ []) × P W
Passes P then (Reached.went {log = log} before W y step shows) = ((then ≡ y ∷ log) × P W) ⊎ Passes P then before

-- the ground sends these octets in this slot
abbrev pub GoesIn : ℕ → List ℕ → Entry → Type 0
GoesIn slot octets x = (x.slot ≡ slot) × (x.event ≡ Event.Sent End.Ground octets)

-- the ground accepts a packet in this slot: it takes Q and answers RN
abbrev pub TakenIn : ℕ → ℕ → ℕ → List ℕ → Entry → Type 0
TakenIn slot q rn octets x = (x.slot ≡ slot) × Accepts End.Ground on q rn octets x

-- the frame from the ground with this number, header and octets
abbrev pub frame_of : ℕ → BduHeader → List ℕ → List ℕ
frame_of number header octets = data_octets Up 5 1 number header octets

-- an end with A, and R, and what is acknowledged above A, and what the flags above R say
abbrev pub seen : ℕ → List Bool → ℕ → List Bool → Shown
seen a acknowledged r flags = record { log_on = on; oldest = a; acknowledged = acknowledged; awaits = r; flags = flags }

-- of eight, none, and the first one
abbrev pub none_of : List Bool
none_of = replicate 8 false

abbrev pub first_of : List Bool
first_of = true ∷ replicate 7 false

-- ## a BDU is lost, and sent again under another number

-- a packet of 54 octets, which makes two BDUs, of 53 octets and of one; and one of a single octet
abbrev pub front : List ℕ
front = replicate 53 65

abbrev pub long : List ℕ
long = front ++ 66 ∷ []

abbrev pub short : List ℕ
short = 67 ∷ []

-- the BDU 0 of the long packet under a number; its BDU 1 under the number 1; the short packet's only BDU under the number 0
abbrev pub front_frame : ℕ → List ℕ
front_frame number = frame_of number (record { rn = 0; q = 2; more = true; bsn = 0 }) front

abbrev pub back_frame : List ℕ
back_frame = frame_of 1 (record { rn = 0; q = 2; more = false; bsn = 1 }) (66 ∷ [])

abbrev pub short_frame : List ℕ
short_frame = frame_of 0 (record { rn = 0; q = 3; more = false; bsn = 0 }) short

-- the air's report of R and flags
abbrev pub report_of : ℕ → List Bool → List ℕ
report_of r flags = report_octets Up 5 1 r (flags_octet flags)

-- In slot 10 the ground accepts the long packet and sends both its BDUs, under 0 and 1; only the second one is brought.
-- In slot 12 a report says so: 0 is returned, 1 is acknowledged. A short packet of a higher priority takes the number 0, and BDU 0 goes under 2.
-- Both are handed up, and the next report confirms both.
abbrev pub lost_log : Log
lost_log =
    entry 12 (Event.Brought End.Ground (Frame.Report on) (Answer.Confirmed ((2, 0) ∷ (3, 0) ∷ []))) (seen 3 none_of 0 none_of) (seen 0 none_of 3 none_of)
    ∷ entry 12 (Event.Reported End.Air (report_of 3 none_of)) (seen 0 first_of 0 none_of) (seen 0 none_of 3 none_of)
    ∷ entry 12 (Event.Brought End.Air (Frame.Data on) (Answer.Packet 2 0 long)) (seen 0 first_of 0 none_of) (seen 0 none_of 3 none_of)
    ∷ entry 12 (Event.Brought End.Air (Frame.Data on) (Answer.Packet 3 0 short)) (seen 0 first_of 0 none_of) (seen 0 none_of 2 none_of)
    ∷ entry 12 (Event.Sent End.Ground (front_frame 2)) (seen 0 first_of 0 none_of) (seen 0 none_of 0 first_of)
    ∷ entry 12 (Event.Sent End.Ground short_frame) (seen 0 first_of 0 none_of) (seen 0 none_of 0 first_of)
    ∷ entry 12 (Event.Accepted End.Ground 3 0 short) (seen 0 first_of 0 none_of) (seen 0 none_of 0 first_of)
    ∷ entry 12 (Event.Brought End.Ground (Frame.Report on) (Answer.Confirmed [])) (seen 0 first_of 0 none_of) (seen 0 none_of 0 first_of)
    ∷ entry 12 (Event.Reported End.Air (report_of 0 first_of)) (seen 0 none_of 0 none_of) (seen 0 none_of 0 first_of)
    ∷ entry 12 Event.Ticked (seen 0 none_of 0 none_of) (seen 0 none_of 0 first_of)
    ∷ entry 10 (Event.Brought End.Air (Frame.Data on) Answer.Held) (seen 0 none_of 0 none_of) (seen 0 none_of 0 first_of)
    ∷ entry 10 (Event.Sent End.Ground back_frame) (seen 0 none_of 0 none_of) (seen 0 none_of 0 none_of)
    ∷ entry 10 (Event.Sent End.Ground (front_frame 0)) (seen 0 none_of 0 none_of) (seen 0 none_of 0 none_of)
    ∷ entry 10 (Event.Accepted End.Ground 2 0 long) (seen 0 none_of 0 none_of) (seen 0 none_of 0 none_of)
    ∷ entry 10 Event.Ticked (seen 0 none_of 0 none_of) (seen 0 none_of 0 none_of)
    ∷ entry 0 (Event.LoggedOn End.Air) (seen 0 none_of 0 none_of) (seen 0 none_of 0 none_of)
    ∷ entry 0 (Event.LoggedOn End.Ground) (seen 0 none_of 0 none_of) (end off 0 0)
    ∷ []

-- the log is that of a run: BDU 0 is sent under 0, and after that no frame is underway, for it is lost; it is sent again under 2; the packet is handed up whole, and confirmed
pub record LostAndSentAgain : Type 0 where
  pub world : World Sender
  pub run : Run world lost_log
  pub accepted : Has (TakenIn 10 2 0 long) lost_log
  pub sent : Has (GoesIn 10 (front_frame 0)) lost_log
  pub lost : Passes (λ W. W.lane End.Ground ≡ []) (drop 12 lost_log) run
  pub sent_again : Has (GoesIn 12 (front_frame 2)) lost_log
  pub handed_up : Has (HandsUp End.Air on 2 0 long) lost_log
  pub confirmed : Has (Confirms End.Ground on 2 0) lost_log

-- ## a packet expires, and its reference number is given again

-- what both ends show all the time: nothing is acknowledged, and nothing came
abbrev pub plain : ℕ → Event → Entry
plain slot event = entry slot event (end on 0 0) (end on 0 0)

abbrev pub taken : ℕ → ℕ → List ℕ → Event
taken q rn octets = Event.Accepted End.Ground q rn octets

-- the only BDU of the packet that expires, under the number 0
abbrev pub lone_frame : List ℕ
lone_frame = frame_of 0 (record { rn = 0; q = 1; more = false; bsn = 0 }) (65 ∷ [])

-- In slot 100 the ground accepts a packet under RN 0 and sends it; the frame is lost.
-- In slot 174 the packet expires, and three more take the other reference numbers. In slot 249 RN 0 is given again.
abbrev pub expiry_log : Log
expiry_log =
    plain 249 (taken 1 0 (69 ∷ []))
    ∷ plain 249 Event.Ticked
    ∷ plain 248 Event.Ticked
    ∷ plain 174 (taken 1 3 (68 ∷ []))
    ∷ plain 174 (taken 1 2 (67 ∷ []))
    ∷ plain 174 (taken 1 1 (66 ∷ []))
    ∷ plain 174 Event.Ticked
    ∷ plain 173 Event.Ticked
    ∷ plain 100 (Event.Sent End.Ground lone_frame)
    ∷ plain 100 (taken 1 0 (65 ∷ []))
    ∷ plain 100 Event.Ticked
    ∷ plain 0 (Event.LoggedOn End.Air)
    ∷ entry 0 (Event.LoggedOn End.Ground) (end on 0 0) (end off 0 0)
    ∷ []

-- the log is that of a run: the packet is sent, and after that no frame is underway, for it is lost; the packet at the place 4, of Q 1 and RN 0, expires in slot 174, and not in slot 173; in slot 248 no reference number under Q 1 is free, and in slot 249 that of the packet is given again
pub record ExpiresAndGivesAgain : Type 0 where
  pub world : World Sender
  pub run : Run world expiry_log
  pub accepted : Has (TakenIn 100 1 0 (65 ∷ [])) expiry_log
  pub sent : Has (GoesIn 100 lone_frame) expiry_log
  pub lost : Passes (λ W. W.lane End.Ground ≡ []) (drop 8 expiry_log) run
  pub expires : Passes (λ W. (expired 173 (W.ends End.Ground).sender.half ≡ []) × (expired 174 (W.ends End.Ground).sender.half ≡ 4 ∷ [])) (drop 7 expiry_log) run
  pub none_free : Passes (λ W. passed (W.ends End.Ground).sender.half 1 ≡ 4) (drop 2 expiry_log) run
  pub accepted_again : Has (TakenIn 249 1 0 (69 ∷ [])) expiry_log
