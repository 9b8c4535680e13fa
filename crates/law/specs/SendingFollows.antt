-- What each call of the sending half is in the ledger that it is tied to. Every slot that a call is given is the ledger's clock.
use Rattle.std.specs.Prelude.{◌≡◌, ℕ, ◌+◌, ◌*◌, ◌%◌, ◌<◌, ◌≤◌, Bool, true, ◌⊎◌, List, length, nat_lt}
use Rattle.rules.specs.Members.{Among}
use Rattle.law.specs.Ledger.{Status, Packet, Receiver, Frame, Report, Ledger, put}
use Rattle.law.specs.Steps.{Ages, ticked, Accepts as AcceptsStep, accepted as accepted_step, Sends as SendsStep, sending, Lowest, Oldest, Confirms, after, marked, fresh, Run}
use Rattle.law.specs.Sound.{Settled}
use Rattle.rules.specs.Constants.{rest, packet_room}
use Rattle.rules.specs.declared.window.BduKey.{BduKey}
use Rattle.rules.specs.declared.window.Mark.{Mark}
use Rattle.rules.specs.Sending.{Sending, Answer, Sends, Refused, new, mark, place, piece, pieces, opening, turn, passed, accepted, heard, confirmed, slotted, expired}
use Rattle.law.specs.SendingTie.{Holds, Tied, Reads}

-- an accepted packet is the ledger's next one
abbrev pub Taken : Sending → Ledger → (ℕ → List ℕ) → ℕ → List ℕ → Type 0
Taken S L bodies q octets =
    let rn : ℕ = turn S q (passed S q) in
    let p : Packet = record { key = 4 * q + rn; size = pieces octets; born = L.clock } in
    record {
      step : AcceptsStep L p;
      tied : Tied (accepted q rn octets L.clock S) (accepted_step p L) (put bodies L.tx.total octets);
    }

-- under q no reference number is free: the last packet of each is pending, or expired and less than 149 slots old
abbrev pub NoneFree : Ledger → ℕ → Type 0
NoneFree L q =
    (rn : ℕ) → rn < 4 →
    (i : ℕ) × Holds L.tx L.clock (4 * q + rn) i
    × ((L.tx.status i ≡ Status.Pending) ⊎ ((L.tx.status i ≡ Status.Expired) × (L.clock < (L.tx.packet i).born + rest)))

-- a frame that was sent is the ledger's number oldest + k, and shows it modulo 256 and its packet's key, piece and octets
abbrev pub FrameSent : Sending → Ledger → (ℕ → List ℕ) → ℕ → BduKey → Bool → List ℕ → Sending → Type 0
FrameSent S L bodies number b more octets S' = record {
  packet : ℕ;
  step : SendsStep L (L.tx.oldest + opening S) packet b.bsn;
  tied : Tied S' (sending (L.tx.oldest + opening S) packet b.bsn L) bodies;
  number : number ≡ (L.tx.oldest + opening S) % 256;
  key : (L.tx.packet packet).key ≡ place b;
  more : more ≡ nat_lt (b.bsn + 1) (L.tx.packet packet).size;
  octets : octets ≡ piece (bodies packet) b.bsn;
}

-- the places listed are those of the pending packets that st gives the status s
abbrev pub Lists : Ledger → (ℕ → Status) → Status → List ℕ → Type 0
Lists L st s ps = record {
  only : (p : ℕ) → Among p ps → (i : ℕ) × (i < L.tx.total) × ((L.tx.packet i).key ≡ p) × (L.tx.status i ≡ Status.Pending) × (st i ≡ s);
  all : (i : ℕ) → i < L.tx.total → L.tx.status i ≡ Status.Pending → st i ≡ s → Among (L.tx.packet i).key ps;
}

-- a report that is not refused is heard in the ledger, with its marks
abbrev pub ReportTaken : Sending → Ledger → (ℕ → List ℕ) → Report → ℕ → (ℕ → Bool) → Type 0
ReportTaken S L bodies r R flag = record {
  oldest : ℕ;
  status : ℕ → Status;
  moves : Oldest L (after L r) oldest;
  confirms : Confirms L (after L r) status;
  tied : Tied (heard R flag L.clock S) (marked (after L r) oldest status L) bodies;
  lists : Lists L status Status.Confirmed (confirmed R flag L.clock S);
}

-- a slot is the ledger's slot
abbrev pub SlotPassed : Sending → Ledger → (ℕ → List ℕ) → ℕ → Type 0
SlotPassed S L bodies c = record {
  status : ℕ → Status;
  ages : Ages L c status;
  tied : Tied (slotted c S) (ticked c status L) bodies;
  lists : Lists L status Status.Expired (expired c S);
}

-- every use of a number is two slots old and R0 is the oldest number not received: then the half holds R0, and as acknowledged exactly what was received above it
abbrev pub Settles : Sending → Ledger → ℕ → (ℕ → Bool) → Type 0
Settles S L R flag =
    Settled L → (R0 : ℕ) → Lowest L R0 →
    ((heard R flag L.clock S).oldest ≡ R0 % 256)
    × ((i : ℕ) → (mark (heard R flag L.clock S) (1 + i) ≡ Mark.Acknowledged → L.rx.got (R0 + 1 + i) ≡ true)
    × (L.rx.got (R0 + 1 + i) ≡ true → mark (heard R flag L.clock S) (1 + i) ≡ Mark.Acknowledged))

-- all of it. `refuses`, `accepts`, `sends`, `late`, `current`, `slot` are the calls of the half; `elsewhere`: what the other half and the lanes do leaves the tie
abbrev pub Follows : ℕ → Sending → Ledger → (ℕ → List ℕ) → Type 0
Follows d2 S L bodies = record {
  refuses : (q : ℕ) → passed S q ≡ 4 → NoneFree L q;
  accepts : (q : ℕ) (octets : List ℕ) → q < 4 → 1 ≤ length octets → length octets ≤ packet_room → passed S q < 4 → Taken S L bodies q octets;
  sends : (count : ℕ) → L.tx.count ≤ count → (number : ℕ) (b : BduKey) (more : Bool) (octets : List ℕ) (S' : Sending)
      → Sends L.clock count S (Answer.Sent number b more octets) S' → FrameSent S L bodies number b more octets S';
  late : (r : Report) (R : ℕ) (flag : ℕ → Bool) → Reads r R flag → Among r L.reports → L.clock ≤ r.slot + d2 → r.low < L.tx.oldest → Refused R flag S;
  current : (r : Report) (R : ℕ) (flag : ℕ → Bool) → Reads r R flag → Among r L.reports → L.clock ≤ r.slot + d2 → L.tx.oldest ≤ r.low
      → (Refused R flag S → ⊥) × ReportTaken S L bodies r R flag;
  settles : (r : Report) (R : ℕ) (flag : ℕ → Bool) → Reads r R flag → Among r L.reports → L.clock ≤ r.slot + d2 → Settles S L R flag;
  slot : (c : ℕ) → L.clock ≤ c → SlotPassed S L bodies c;
  elsewhere : (X : Receiver) (fs : List Frame) (rs : List Report) → Tied S (record { clock = L.clock; tx = L.tx; rx = X; frames = fs; reports = rs }) bodies;
}

-- a new half is tied to a ledger where nothing was done, at whatever clock, and every call of a tied half is a step of a run that leaves it tied
abbrev pub SendingTied : Type 0
SendingTied =
    ((c : ℕ) (bodies : ℕ → List ℕ) → Tied new (fresh c) bodies)
    × ((d1 d2 : ℕ) → d1 + d2 ≤ 1 → (S : Sending) (L : Ledger) (bodies : ℕ → List ℕ) → Run d1 d2 L → Tied S L bodies → Follows d2 S L bodies)
