-- Laws of the sending half: what holds in every half that calls lead to, and by what a pending packet leaves.
use Rattle.std.specs.Prelude.{◌≡◌, ℕ, ◌<◌, ◌≤◌, Bool, ◌⊎◌, List, length, Some, slice_index_or}
use Rattle.rules.specs.Members.{Among}
use Rattle.rules.specs.Constants.{window_size, packet_room}
use Rattle.rules.specs.Sending.{BduKey, Mark, Progress, Standing, Sending, Answer, new, mark, packet, place, pieces, turn, passed, accepted, Sends, Refused, heard, confirmed, slotted, expired}

-- the halves that calls lead to, each with its slot: a new one, and one after a packet taken, a frame sent, a report taken, or a slot that is not an earlier one
pub data Called : ℕ → Sending → Type 0 where
  begun : (c : ℕ) → Called c new
  accept : {c : ℕ} {S : Sending} → Called c S → (q : ℕ) (octets : List ℕ) → q < 4 → 1 ≤ length octets → length octets ≤ packet_room → passed S q < 4
      → Called c (accepted q (turn S q (passed S q)) octets c S)
  send : {c : ℕ} {S : Sending} → Called c S → (count number : ℕ) (b : BduKey) (more : Bool) (octets : List ℕ) (S' : Sending) → Sends c count S (Answer.Sent number b more octets) S' → Called c S'
  hear : {c : ℕ} {S : Sending} → Called c S → (R : ℕ) (flag : ℕ → Bool) → (Refused R flag S → ⊥) → Called c (heard R flag c S)
  slot : {c : ℕ} {S : Sending} → Called c S → (d : ℕ) → c ≤ d → Called d (slotted d S)

-- ## unused numbers

-- the window has nine numbers, and behind an unused one there are only unused ones
abbrev pub UnusedLast : Type 0
UnusedLast = (c : ℕ) (S : Sending) → Called c S → (length S.window ≡ window_size) × ((j k : ℕ) → j ≤ k → mark S j ≡ Mark.Unused → mark S k ≡ Mark.Unused)

-- ## the state of a BDU

-- b is a BDU of a packet that is pending
abbrev pub OfPending : Sending → BduKey → Type 0
OfPending S b = record {
  q : b.q < 4;
  rn : b.rn < 4;
  bsn : b.bsn < pieces (packet S (place b)).octets;
  pending : (since : ℕ) × ((packet S (place b)).standing ≡ Standing.Pending since);
}

-- the entry k of the window is on its way with b
abbrev pub Has : Sending → ℕ → BduKey → Type 0
Has S k b = (slot : ℕ) × (mark S k ≡ Mark.OnItsWay slot (Some b))

abbrev pub progress_of : Sending → BduKey → Progress
progress_of S b = slice_index_or (packet S (place b)).bdus b.bsn Progress.Waiting

-- b waits, is on its way under one number, or is acknowledged; the three exclude each other, since its progress is one of three
pub data OneState (S : Sending) (b : BduKey) : Type 0 where
  waits : progress_of S b ≡ Progress.Waiting → ((k : ℕ) → Has S k b → ⊥) → OneState S b
  on_its_way : progress_of S b ≡ Progress.OnItsWay → (k : ℕ) → Has S k b → ((j : ℕ) → Has S j b → j ≡ k) → OneState S b
  acknowledged : progress_of S b ≡ Progress.Acknowledged → ((k : ℕ) → Has S k b → ⊥) → OneState S b

-- every BDU of a pending packet is in one state, and every number on its way that has a BDU has one of a pending packet
abbrev pub OneStateEach : Type 0
OneStateEach = (c : ℕ) (S : Sending) → Called c S → ((b : BduKey) → OfPending S b → OneState S b) × ((k : ℕ) (b : BduKey) → Has S k b → OfPending S b)

-- ## how a pending packet leaves

-- what is pending at p since that slot in S is so in S' too, with the same octets
abbrev pub Stays : ℕ → ℕ → Sending → Sending → Type 0
Stays p since S S' = ((packet S' p).standing ≡ Standing.Pending since) × ((packet S' p).octets ≡ (packet S p).octets)

-- a pending packet of any half: an accept and a send leave it, a report leaves it or confirms it, and a slot leaves it or has it expire
abbrev pub LeavesBy : Type 0
LeavesBy = (S : Sending) (p since : ℕ) → (packet S p).standing ≡ Standing.Pending since → record {
  accept : (q : ℕ) (octets : List ℕ) (now : ℕ) → passed S q < 4 → Stays p since S (accepted q (turn S q (passed S q)) octets now S);
  send : (now count : ℕ) (answer : Answer) (S' : Sending) → Sends now count S answer S' → Stays p since S S';
  hear : (R : ℕ) (flag : ℕ → Bool) (now : ℕ) → Stays p since S (heard R flag now S) ⊎ Among p (confirmed R flag now S);
  slot : (now : ℕ) → Stays p since S (slotted now S) ⊎ Among p (expired now S);
}
