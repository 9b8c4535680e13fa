-- What holds of every run of the ledger.
use Rattle.std.specs.Prelude.{◌≡◌, ℕ, ◌+◌, ◌<◌, ◌≤◌, true, false, ◌⊎◌, ◌≢◌}
use Rattle.rules.specs.Constants.{return_age, window_size}
use Rattle.rules.specs.Members.{Among}
use Rattle.law.specs.Ledger.{Status, Mark, Cell, Frame, Report, Ledger, tells, cell}
use Rattle.law.specs.Steps.{Comes, Lowest, Oldest, Full, Run, after, with_frame}

-- packet i is the last accepted one with its Q and RN
abbrev pub Last : Ledger → ℕ → Type 0
Last L i = (i < L.tx.total) × ((j : ℕ) → j < L.tx.total → (L.tx.packet j).key ≡ (L.tx.packet i).key → j ≤ i)

-- a data frame that comes in time and whose number is awaited: its packet is the last with its Q and RN, it was not handed up before,
-- and all that the place holds is of that packet, but not this piece. So the frame is taken, and a hand-up gives that packet, once
abbrev pub Taken : Ledger → Frame → Type 0
Taken L f = record {
  last : Last L f.packet;
  once : L.rx.handed f.packet ≡ false;
  piece : f.part < (L.tx.packet f.packet).size;
  inside : (b : ℕ) → cell L f.packet b ≡ Cell.From f.packet → b < (L.tx.packet f.packet).size;
  pure : (b : ℕ) → (cell L f.packet b ≡ Cell.Empty) ⊎ (cell L f.packet b ≡ Cell.From f.packet);
  apart : cell L f.packet f.part ≡ Cell.Empty;
}

-- a report that comes in time: it counts only received numbers, all of them used and not returned
abbrev pub Honest : Ledger → Report → Type 0
Honest L r = (n : ℕ) → tells r n ≡ true → (L.rx.got n ≡ true) × (n < L.tx.used) × ((L.tx.sent n).mark ≢ Mark.Returned)

-- every use of a number is two slots old
abbrev pub Settled : Ledger → Type 0
Settled L = (n : ℕ) → n < L.tx.used → (L.tx.sent n).slot + return_age ≤ L.clock

-- after the report r both halves agree: it is not refused, and what is then acknowledged is what was received
abbrev pub Agrees : Ledger → Report → Type 0
Agrees L r = record {
  current : L.tx.oldest ≤ r.low;
  oldest : (A : ℕ) → Oldest L (after L r) A → ((n : ℕ) → n < A → L.rx.got n ≡ true) × (L.rx.got A ≡ false);
  marks : (n : ℕ) → n < L.tx.used → ((after L r n ≡ Mark.Acked → L.rx.got n ≡ true) × (L.rx.got n ≡ true → after L r n ≡ Mark.Acked));
}

-- `flags`: eight flags above the oldest number not received suffice. `near_frames` and `near_reports`: a number that can still come is so near that its remainder by 256 tells it
abbrev pub Sound : ℕ → ℕ → Ledger → Type 0
Sound d1 d2 L = record {
  taken : (f : Frame) → L.rx.live ≡ true → Among f L.frames → L.clock ≤ f.slot + d1 → L.rx.got f.number ≡ false → Taken L f;
  whole : (f : Frame) → Comes d1 L f → Full L f → (b : ℕ) → b < (L.tx.packet f.packet).size → with_frame L f b ≡ Cell.From f.packet;
  confirmed : (i : ℕ) → i < L.tx.total → L.tx.status i ≡ Status.Confirmed → L.rx.handed i ≡ true;
  honest : (r : Report) → Among r L.reports → L.clock ≤ r.slot + d2 → Honest L r;
  agrees : (r : Report) → Among r L.reports → L.clock ≤ r.slot + d2 → Settled L → Agrees L r;
  window : (L.tx.oldest ≤ L.tx.used) × (L.tx.used ≤ L.tx.oldest + window_size);
  flags : (R : ℕ) → Lowest L R → (L.tx.oldest ≤ R) × (R ≤ L.tx.used) × ((n : ℕ) → L.rx.got n ≡ true → n ≤ R + 8);
  near_frames : (f : Frame) → Among f L.frames → L.clock ≤ f.slot + d1 → (f.number < L.tx.used) × (L.tx.used ≤ f.number + 25);
  near_reports : (r : Report) → Among r L.reports → L.clock ≤ r.slot + d2 → (r.low ≤ L.tx.used) × (L.tx.used ≤ r.low + 25);
}

abbrev pub LinkSound : Type 0
LinkSound = (d1 d2 : ℕ) → d1 + d2 ≤ 1 → (L : Ledger) → Run d1 d2 L → Sound d1 d2 L
