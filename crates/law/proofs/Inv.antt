-- What every step of the ledger keeps, in three groups: numbers, frames underway, places.
use Rattle.std.proofs.Common.{◌≡◌, ℕ, ◌+◌, ◌*◌, ◌<◌, ◌≤◌, true, false, ◌⊎◌}
use Rattle.rules.specs.Members.{Among}
use Rattle.law.specs.Ledger.{Status, Mark, Cell, Packet, Place, Use, Frame, Report, Ledger, tells, Received, cell}
use Rattle.law.specs.Steps.{Unsent}

-- the use u is of a piece of an accepted packet, within 73 slots of its accept
abbrev pub UseOk : ℕ → ℕ → (ℕ → Packet) → Use → Type 0
UseOk c total packet u = record {
  known : u.packet < total;
  piece : u.part < (packet u.packet).size;
  born : (packet u.packet).born ≤ u.slot;
  young : u.slot ≤ (packet u.packet).born + 73;
  past : u.slot ≤ c;
}

-- two uses that both claim one piece
abbrev pub Clash : Use → Use → Type 0
Clash u v = record {
  one : u.mark ≡ Mark.Returned → ⊥;
  two : v.mark ≡ Mark.Returned → ⊥;
  packet : u.packet ≡ v.packet;
  part : u.part ≡ v.part;
}

abbrev pub Numbers : ℕ → Ledger → Type 0
Numbers d1 L = record {
  low : L.tx.oldest ≤ L.tx.used;
  high : L.tx.used ≤ L.tx.oldest + 9;
  few : L.tx.count ≤ 8;
  below : (n : ℕ) → n < L.tx.oldest → (L.tx.sent n).mark ≡ Mark.Acked;
  sure : (n : ℕ) → n < L.tx.used → (L.tx.sent n).mark ≡ Mark.Acked → L.rx.got n ≡ true;
  back : (n : ℕ) → n < L.tx.used → (L.tx.sent n).mark ≡ Mark.Returned → (L.rx.got n ≡ false) × ((L.tx.sent n).slot + d1 < L.clock);
  early : (n : ℕ) → L.rx.got n ≡ true → n < L.tx.used;
  uses : (n : ℕ) → n < L.tx.used → UseOk L.clock L.tx.total L.tx.packet (L.tx.sent n);
  claims : (n m : ℕ) → n < L.tx.used → m < L.tx.used → Clash (L.tx.sent n) (L.tx.sent m) → n ≡ m;
  waits : L.tx.live ≡ true → (i : ℕ) → i < L.tx.total → L.tx.status i ≡ Status.Pending → L.clock < (L.tx.packet i).born + 74;
  sizes : (i : ℕ) → i < L.tx.total → 1 ≤ (L.tx.packet i).size;
  births : (i : ℕ) → i < L.tx.total → (L.tx.packet i).born ≤ L.clock;
}

-- a frame that can still come is of the last use of its number
abbrev pub FrameOk : Ledger → Frame → Type 0
FrameOk L f = record {
  number : f.number < L.tx.used;
  packet : (L.tx.sent f.number).packet ≡ f.packet;
  part : (L.tx.sent f.number).part ≡ f.part;
  slot : (L.tx.sent f.number).slot ≡ f.slot;
  near : L.tx.used + 8 * f.slot ≤ f.number + 9 + 8 * L.clock + L.tx.count;
}

-- a report that can still come tells what was received long enough before it, and only what is received
abbrev pub ReportOk : ℕ → Ledger → Report → Type 0
ReportOk d1 L r = record {
  past : r.slot ≤ L.clock;
  told : (n : ℕ) → tells r n ≡ true → L.rx.got n ≡ true;
  all : (n : ℕ) → n < L.tx.used → L.rx.got n ≡ true → (L.tx.sent n).slot + d1 < r.slot → tells r n ≡ true;
  gap : tells r r.low ≡ true → ⊥;
  near : L.tx.used + 8 * r.slot ≤ r.low + 9 + 8 * L.clock + L.tx.count;
}

abbrev pub Underway : ℕ → ℕ → Ledger → Type 0
Underway d1 d2 L = record {
  frames : (f : Frame) → Among f L.frames → L.clock ≤ f.slot + d1 → FrameOk L f;
  reports : (r : Report) → Among r L.reports → L.clock ≤ r.slot + d2 → ReportOk d1 L r;
}

-- the place p, which is `at`, holds a piece of packet i: then that is all it holds, and all that came of i
abbrev pub Held : Ledger → Place → ℕ → ℕ → ℕ → Type 0
Held L at p b i = record {
  mine : (L.tx.packet i).key ≡ p;
  known : i < L.tx.total;
  kept : L.rx.handed i ≡ false;
  came : Received L.tx L.rx i b;
  born : (L.tx.packet i).born ≤ at.since;
  young : at.since ≤ (L.tx.packet i).born + 74;
  lasts : L.rx.live ≡ true → L.clock < at.since + 75;
  only : (d j : ℕ) → at.holds d ≡ Cell.From j → j ≡ i;
  all : (d : ℕ) → Received L.tx L.rx i d → at.holds d ≡ Cell.From i;
}

abbrev pub Places : Ledger → Type 0
Places L = record {
  held : (p b i : ℕ) → (L.rx.place p).holds b ≡ Cell.From i → Held L (L.rx.place p) p b i;
  lacks : (i : ℕ) → i < L.tx.total → ((b : ℕ) → b < (L.tx.packet i).size → cell L i b ≡ Cell.From i) → ⊥;
  where_is : (i b : ℕ) → Received L.tx L.rx i b → (L.rx.handed i ≡ true) ⊎ ((cell L i b ≡ Cell.From i) ⊎ ((L.tx.packet i).born + 75 ≤ L.clock));
  whole : (i : ℕ) → i < L.tx.total → L.rx.handed i ≡ true → (b : ℕ) → b < (L.tx.packet i).size → Received L.tx L.rx i b;
  older : (i j : ℕ) → i < j → j < L.tx.total → (L.tx.packet i).key ≡ (L.tx.packet j).key → ((b : ℕ) → b < (L.tx.packet i).size → Received L.tx L.rx i b) ⊎ (((L.tx.packet i).born + 149 ≤ L.clock) ⊎ ((L.tx.status i ≡ Status.Expired) × Unsent L i));
  safe : (i : ℕ) → i < L.tx.total → L.tx.status i ≡ Status.Confirmed → L.rx.handed i ≡ true;
}

-- marks that tell the truth: a number is newly acknowledged only if it is received, and returned only if it is not and no frame of it can still come
abbrev pub Fair : ℕ → Ledger → (ℕ → Mark) → Type 0
Fair d1 L mk =
    (n : ℕ) → n < L.tx.used →
    (mk n ≡ (L.tx.sent n).mark)
    ⊎ (((L.tx.sent n).mark ≡ Mark.InFlight)
    × (((mk n ≡ Mark.Acked) × (L.rx.got n ≡ true)) ⊎ ((mk n ≡ Mark.Returned) × (L.rx.got n ≡ false) × ((L.tx.sent n).slot + d1 < L.clock))))

abbrev pub Inv : ℕ → ℕ → Ledger → Type 0
Inv d1 d2 L = record { numbers : Numbers d1 L; underway : Underway d1 d2 L; places : Places L }
