-- An end of the link and its six calls: what each answers, what the end is after it, and what it refuses, in order.
use Rattle.std.specs.Prelude.{◌≡◌, ℕ, suc, ◌/◌, ◌%◌, Bool, true, false, cond, not, ◌&&◌, ◌||◌, List, [], ◌∷◌, map, length, Some, None, Ok, Err, Option, Result, ◌==◌, nat_le, nat_lt, slice_index_or}
use Rattle.frame.specs.Beginnings.{FirstWrong}
use Rattle.frame.specs.Flags.{marks_of, flags_octet}
use Rattle.frame.specs.Frames.{Readable, CarriesData, CarriesReport}
use Rattle.frame.specs.Writing.{data_octets, report_octets}
use Rattle.frame.specs.declared.fault.FrameFault.TheVariants.{Unreadable}
use Rattle.frame.specs.declared.header.BduHeader.{BduHeader}
use Rattle.frame.specs.declared.kind.Way.{Way}
use Rattle.frame.specs.declared.kind.Way.TheVariants.{Up, Down}
use Rattle.rules.specs.Constants.{last_slot, frame_room, packet_room}
use Rattle.rules.specs.Receiving.{Receiving, Bdu}
use Rattle.rules.specs.Receiving as receiving
use Rattle.rules.specs.Sending.{Sending, Outgoing, is_pending, passed, turn, accepted, Sends, heard, confirmed, slotted, expired, places}
use Rattle.rules.specs.Sending as sending
use Rattle.rules.specs.Reports.{is_refused}
use Rattle.rules.specs.declared.fault.EndFault.{EndFault}
use Rattle.rules.specs.declared.fault.EndFault.TheVariants as fault
use Rattle.rules.specs.declared.window.BduKey.{BduKey}

-- an end: its log-on (0 and 0 before the first), its clock, the data frames sent in this slot, and its two halves
pub record End : Type 0 where
  pub aircraft : ℕ
  pub log_on : ℕ
  pub clock : ℕ
  pub count : ℕ
  pub sends : Sending
  pub receives : Receiving

abbrev pub new : End
new = record { aircraft = 0; log_on = 0; clock = 0; count = 0; sends = sending.new; receives = receiving.new }

-- the other direction
abbrev pub opposite : Way → Way
opposite Up = Down
opposite Down = Up

-- Q and RN of the packets at these places
abbrev pub named : List ℕ → List (ℕ × ℕ)
named = map (λ p. (p / 4, p % 4))

-- ## refusals: a call's rows in their order; it is refused by the first whose test holds

abbrev pub Rows : Type 0
Rows = List (Bool × EndFault)

abbrev pub refused_by : Rows → Option EndFault
refused_by [] = None
refused_by ((true, f) ∷ rows) = Some f
refused_by ((false, f) ∷ rows) = refused_by rows

-- a call answers as its rule says if no row refuses it; else it is refused by the first that does, and nothing has changed
abbrev pub Ruled : {A : Type 0} → Rows → End → (A → End → Type 0) → Result A EndFault → End → Type 0
Ruled rows e Rule (Ok answer) e' = (refused_by rows ≡ None) × Rule answer e'
Ruled rows e Rule (Err f) e' = (refused_by rows ≡ Some f) × (e' ≡ e)

abbrev pub is_new : End → Bool
is_new e = e.log_on == 0

-- ## log on: both halves are new, and what was pending is cut off; clock and count stay

abbrev pub log_on_rows : End → ℕ → ℕ → Rows
log_on_rows e aircraft number =
    (nat_le number e.log_on, fault.LogOn)
    ∷ (aircraft == 0 || nat_le 255 aircraft, fault.Aircraft)
    ∷ (not (is_new e) && not (aircraft == e.aircraft), fault.Aircraft)
    ∷ []

abbrev pub logged_on : ℕ → ℕ → End → End
logged_on aircraft number e = record {
  aircraft = aircraft;
  log_on = number;
  clock = e.clock;
  count = e.count;
  sends = sending.new;
  receives = receiving.new;
}

-- the places of the pending packets
abbrev pub pending : Sending → List ℕ
pending S = places (λ o. is_pending o.standing) 0 S.packets

abbrev pub LogsOn : End → ℕ → ℕ → Result (List (ℕ × ℕ)) EndFault → End → Type 0
LogsOn e aircraft number =
    Ruled (log_on_rows e aircraft number) e (λ cut_off e'. (cut_off ≡ named (pending e.sends)) × (e' ≡ logged_on aircraft number e))

-- ## slot: the clock moves, packets expire, places are emptied; a later slot clears the count

abbrev pub slot_rows : End → ℕ → Rows
slot_rows e slot = (nat_lt slot e.clock || nat_lt last_slot slot, fault.Slot) ∷ []

abbrev pub moved_to : ℕ → End → End
moved_to slot e = record {
  aircraft = e.aircraft;
  log_on = e.log_on;
  clock = slot;
  count = cond (nat_lt e.clock slot) 0 e.count;
  sends = slotted slot e.sends;
  receives = receiving.slot slot e.receives;
}

abbrev pub Slots : End → ℕ → Result (List (ℕ × ℕ)) EndFault → End → Type 0
Slots e slot = Ruled (slot_rows e slot) e (λ gone e'. (gone ≡ named (expired slot e.sends)) × (e' ≡ moved_to slot e))

-- ## accept: the packet is pending under the first free reference number

abbrev pub with_sends : Sending → End → End
with_sends S e = record {
  aircraft = e.aircraft;
  log_on = e.log_on;
  clock = e.clock;
  count = e.count;
  sends = S;
  receives = e.receives;
}

abbrev pub accept_rows : End → ℕ → List ℕ → Rows
accept_rows e q octets =
    (nat_lt (length octets) 1 || (nat_lt packet_room (length octets) || nat_lt 3 q), fault.Packet)
    ∷ (is_new e, fault.LogOn)
    ∷ ((passed e.sends q == 4), fault.NoReference)
    ∷ []

abbrev pub Accepts : End → ℕ → List ℕ → Result ℕ EndFault → End → Type 0
Accepts e q octets =
    Ruled (accept_rows e q octets) e
    (λ rn e'. (rn ≡ turn e.sends q (passed e.sends q)) × (e' ≡ with_sends (accepted q rn octets e.clock e.sends) e))

-- ## send: one data frame, or why none goes

pub data Sent : Type 0 where
  NoneIdle NoneFull NoneShut : Sent
  Frame : List ℕ → Sent

-- the rows of a call that writes a frame into a buffer of so many octets
abbrev pub write_rows : End → ℕ → Rows
write_rows e room = (nat_lt room frame_room, fault.Buffer) ∷ (is_new e, fault.LogOn) ∷ []

-- the end after a data frame went
abbrev pub sent_one : Sending → End → End
sent_one S e = record {
  aircraft = e.aircraft;
  log_on = e.log_on;
  clock = e.clock;
  count = suc e.count;
  sends = S;
  receives = e.receives;
}

-- the header of a BDU that goes
abbrev pub header : BduKey → Bool → BduHeader
header b more = record { rn = b.rn; q = b.q; more = more; bsn = b.bsn }

-- a data frame went: the sending half's choice under its number, with these octets
pub record FrameSent (way : Way) (e : End) (octets : List ℕ) (e' : End) : Type 0 where
  pub number : ℕ
  pub bdu : BduKey
  pub more : Bool
  pub payload : List ℕ
  pub after : Sending
  pub rule : Sends e.clock e.count e.sends (sending.Answer.Sent number bdu more payload) after
  pub written : octets ≡ data_octets way e.aircraft e.log_on number (header bdu more) payload
  pub end : e' ≡ sent_one after e

-- none went, and the end is as it was
abbrev pub NoneSent : End → sending.Answer → End → Type 0
NoneSent e why e' = Sends e.clock e.count e.sends why e.sends × (e' ≡ e)

abbrev pub SendRule : Way → End → Sent → End → Type 0
SendRule way e Sent.NoneIdle e' = NoneSent e sending.Answer.NoneIdle e'
SendRule way e Sent.NoneFull e' = NoneSent e sending.Answer.NoneFull e'
SendRule way e Sent.NoneShut e' = NoneSent e sending.Answer.NoneShut e'
SendRule way e (Sent.Frame octets) e' = FrameSent way e octets e'

abbrev pub SendsFrame : Way → End → ℕ → Result Sent EndFault → End → Type 0
SendsFrame way e room = Ruled (write_rows e room) e (SendRule way e)

-- ## report: R and flags of the receiving half as a frame; nothing changes

abbrev pub ReportsFrame : Way → End → ℕ → Result (List ℕ) EndFault → End → Type 0
ReportsFrame way e room =
    Ruled (write_rows e room) e
    (λ octets e'.
    (octets ≡ report_octets (opposite way) e.aircraft e.log_on e.receives.oldest (flags_octet e.receives.flags)) × (e' ≡ e))

-- ## bring

-- what octets are to a reader: unreadable from a place on, data with its number and BDU, or a report with R and its flags
pub data Reading : Type 0 where
  Torn : ℕ → Reading
  Data : Way → ℕ → ℕ → ℕ → Bdu → Reading
  Report : Way → ℕ → ℕ → ℕ → List Bool → Reading

abbrev pub bdu_header : Bdu → BduHeader
bdu_header u = record { rn = u.rn; q = u.q; more = u.more; bsn = u.bsn }

abbrev pub Reads : List ℕ → Reading → Type 0
Reads bs (Reading.Torn place) = FirstWrong Readable bs place
Reads bs (Reading.Data way aircraft log_on number u) = CarriesData bs way aircraft log_on number (bdu_header u) u.octets
Reads bs (Reading.Report way aircraft log_on R flags) = (octet : ℕ) × CarriesReport bs way aircraft log_on R octet × (flags ≡ marks_of octet)

-- what bring answers: the BDU is held; a packet with Q, RN and octets; the packets that a report confirms
pub data Brought : Type 0 where
  Held : Brought
  Packet : ℕ → ℕ → List ℕ → Brought
  Confirmed : List (ℕ × ℕ) → Brought

abbrev pub same_way : Way → Way → Bool
same_way Up Up = true
same_way Up Down = false
same_way Down Up = false
same_way Down Down = true

-- the frame is for this end: of the way that it takes, its aircraft and its log-on
abbrev pub ours : Way → End → Way → ℕ → ℕ → Bool
ours takes e way aircraft log_on = same_way takes way && (aircraft == e.aircraft && log_on == e.log_on)

-- an end that sends one way takes data of the other, and reports on its own
abbrev pub bring_rows : Way → End → ℕ → Reading → Rows
bring_rows sends e room (Reading.Torn place) = (true, fault.Frame (Unreadable place)) ∷ []
bring_rows sends e room (Reading.Data way aircraft log_on number u) =
    (nat_lt room packet_room, fault.Buffer)
    ∷ (not (ours (opposite sends) e way aircraft log_on), fault.Elsewhere)
    ∷ (not (receiving.awaited e.receives number), fault.Number)
    ∷ (receiving.contradicts (receiving.place e.receives u) u, fault.Contradiction)
    ∷ []
bring_rows sends e room (Reading.Report way aircraft log_on R flags) =
    (not (ours sends e way aircraft log_on), fault.Elsewhere)
    ∷ (is_refused R (λ i. slice_index_or flags i false) e.sends, fault.Number)
    ∷ []

abbrev pub with_receives : Receiving → End → End
with_receives V e = record {
  aircraft = e.aircraft;
  log_on = e.log_on;
  clock = e.clock;
  count = e.count;
  sends = e.sends;
  receives = V;
}

-- what the receiving half answers, as bring does; its refusals are rows above
abbrev pub Took : receiving.Answer → Brought → Type 0
Took receiving.Answer.Held answer = answer ≡ Brought.Held
Took (receiving.Answer.Packet q rn octets) answer = answer ≡ Brought.Packet q rn octets
Took (receiving.Answer.Refused number) answer = ⊥

abbrev pub BringRule : End → Reading → Brought → End → Type 0
BringRule e (Reading.Torn place) answer e' = ⊥
BringRule e (Reading.Data way aircraft log_on number u) answer e' =
    Took (receiving.bring e.receives number u e.clock).0 answer
    × (e' ≡ with_receives (receiving.bring e.receives number u e.clock).1 e)
BringRule e (Reading.Report way aircraft log_on R flags) answer e' =
    (answer ≡ Brought.Confirmed (named (confirmed R (λ i. slice_index_or flags i false) e.clock e.sends)))
    × (e' ≡ with_sends (heard R (λ i. slice_index_or flags i false) e.clock e.sends) e)

-- a frame of these octets is brought to an end that sends this way, with a packet buffer of so many octets
abbrev pub Brings : Way → End → List ℕ → ℕ → Result Brought EndFault → End → Type 0
Brings sends e bs room r e' = (reading : Reading) × Reads bs reading × Ruled (bring_rows sends e room reading) e (BringRule e reading) r e'
