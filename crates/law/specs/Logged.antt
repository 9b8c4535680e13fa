-- One direction of a run, from the end e under the log-on l: its ledger and the octets of its packets, beside the log of the run.
use Rattle.std.specs.Prelude.{◌≡◌, ℕ, ◌+◌, ◌/◌, ◌%◌, ◌<◌, ◌≤◌, true, false, List, [], ◌∷◌, length, slice_index_or}
use Rattle.rules.specs.Members.{Among}
use Rattle.law.specs.Ledger.{Status, Mark, Packet, Report, Ledger, put}
use Rattle.law.specs.Ledger as ledger
use Rattle.law.specs.Steps.{fresh, Ages, ticked, accepted, sending, Comes, Opens, Full, landed, handed_up, Lowest, reported, after, Oldest, marked, lost, sender_left, receiver_left}
use Rattle.law.specs.Steps as steps
use Rattle.law.specs.Log.{End, other, LogOn, Frame, Answer, Event, Entry, shown, Holds, Log}
use Rattle.law.specs.Laws.{Accepts, HandsUp, Confirms, Sends, Hears}
use Rattle.law.specs.Noted.{q_of, rn_of}

-- the entry y tells of no accept, no hand-up and no report of this direction and log-on
pub record Unrelated (e : End) (l : LogOn) (y : Entry) : Type 0 where
  pub accepts : (q rn : ℕ) (octets : List ℕ) → Accepts e l q rn octets y → ⊥
  pub hands_up : (q rn : ℕ) (octets : List ℕ) → HandsUp (other e) l q rn octets y → ⊥
  pub confirms : (q rn : ℕ) → Confirms e l q rn y → ⊥
  pub hears : (answer : Answer) → Hears e l answer y → ⊥

-- what y shows of the end e, if it holds l, is what the ledger's sending half has
pub record ShowsSender (L : Ledger) (e : End) (y : Entry) : Type 0 where
  pub oldest : (shown e y).oldest ≡ L.tx.oldest % 256
  pub eight : length (shown e y).acknowledged ≡ 8
  pub only : (i : ℕ) → i < 8 → slice_index_or (shown e y).acknowledged i false ≡ true → (L.tx.oldest + 1 + i < L.tx.used) × ((L.tx.sent (L.tx.oldest + 1 + i)).mark ≡ Mark.Acked)
  pub all : (i : ℕ) → i < 8 → L.tx.oldest + 1 + i < L.tx.used → (L.tx.sent (L.tx.oldest + 1 + i)).mark ≡ Mark.Acked → slice_index_or (shown e y).acknowledged i false ≡ true

-- what y shows of the end e, if it holds l, is what the ledger's receiving half has
pub record ShowsReceiver (L : Ledger) (e : End) (y : Entry) : Type 0 where
  pub low : ℕ
  pub lowest : Lowest L low
  pub awaits : (shown e y).awaits ≡ low % 256
  pub eight : length (shown e y).flags ≡ 8
  pub flags : (i : ℕ) → i < 8 → slice_index_or (shown e y).flags i false ≡ L.rx.got (low + 1 + i)

-- the ledger and the octets that the event of y leads to
pub data Goes (d1 d2 : ℕ) (e : End) (l : LogOn) (L : Ledger) (B : ℕ → List ℕ) (y : Entry) : Ledger → (ℕ → List ℕ) → Type 0 where
  apart : Unrelated e l y → Goes d1 d2 e l L B y L B
  slot : Unrelated e l y → (c : ℕ) → L.clock ≤ c → (st : ℕ → Status) → Ages L c st → Goes d1 d2 e l L B y (ticked c st L) B
  accept : (p : Packet) (octets : List ℕ) → steps.Accepts L p → Accepts e l (p.key / 4) (p.key % 4) octets y → Goes d1 d2 e l L B y (accepted p L) (put B L.tx.total octets)
  send : (n i b : ℕ) → steps.Sends L n i b → Sends e l y → Goes d1 d2 e l L B y (sending n i b L) B
  land : Unrelated e l y → (f : ledger.Frame) → Comes d1 L f → (Full L f → ⊥) → (o : ℕ) → Opens L f o → Goes d1 d2 e l L B y (landed f o L) B
  hand : (f : ledger.Frame) → Comes d1 L f → Full L f → (x : Frame) → y.event ≡ Event.Brought (other e) x (Answer.Packet (q_of L f.packet) (rn_of L f.packet) (B f.packet)) → Holds (other e) l y
      → Goes d1 d2 e l L B y (handed_up f L) B
  report : Unrelated e l y → (R : ℕ) → Lowest L R → Goes d1 d2 e l L B y (reported R L) B
  hear : (r : Report) → steps.Hears d2 L r → (A : ℕ) → Oldest L (after L r) A → (st : ℕ → Status) → steps.Confirms L (after L r) st
      → (ps : List (ℕ × ℕ)) → y.event ≡ Event.Brought e (Frame.Report l) (Answer.Confirmed ps)
      → ((q rn : ℕ) → Among (q, rn) ps → (i : ℕ) × (i < L.tx.total) × (L.tx.status i ≡ Status.Pending) × (st i ≡ Status.Confirmed) × (q_of L i ≡ q) × (rn_of L i ≡ rn))
      → Goes d1 d2 e l L B y (marked (after L r) A st L) B
  refuse : (r : Report) → Among r L.reports → L.clock ≤ r.slot + d2 → r.low < L.tx.oldest → (n : ℕ) → y.event ≡ Event.Brought e (Frame.Report l) (Answer.Refused n) → Goes d1 d2 e l L B y L B
  leave_sender : Unrelated e l y → Goes d1 d2 e l L B y (sender_left L) B
  leave_receiver : Unrelated e l y → Goes d1 d2 e l L B y (receiver_left L) B

-- the ledger and the octets that a run has come to with this log; lanes lose frames between any two events
pub data Logged (d1 d2 : ℕ) (e : End) (l : LogOn) : Ledger → (ℕ → List ℕ) → Log → Type 0 where
  start : (c : ℕ) (B : ℕ → List ℕ) → Logged d1 d2 e l (fresh c) B []
  lose : {L : Ledger} {B : ℕ → List ℕ} {log : Log} → Logged d1 d2 e l L B log → (fs : List ledger.Frame) (rs : List Report)
      → ((f : ledger.Frame) → Among f fs → Among f L.frames) → ((r : Report) → Among r rs → Among r L.reports) → Logged d1 d2 e l (lost fs rs L) B log
  went : {L L' : Ledger} {B B' : ℕ → List ℕ} {log : Log} → Logged d1 d2 e l L B log → (y : Entry) → Goes d1 d2 e l L B y L' B' → y.slot ≡ L'.clock
      → (Holds e l y → ShowsSender L' e y) → (Holds (other e) l y → ShowsReceiver L' (other e) y) → Logged d1 d2 e l L' B' (y ∷ log)
