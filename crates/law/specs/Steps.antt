-- The steps of a run of the ledger. Each new ledger is computed; where the rules leave a choice, or look for a least number, the step takes it with what it must satisfy.
use Rattle.std.specs.Prelude.{◌≡◌, ℕ, suc, ◌+◌, ◌<◌, ◌≤◌, max, Bool, true, false, cond, ◌&&◌, ◌⊎◌, List, [], ◌∷◌, ◌≢◌, nat_le, nat_lt}
use Rattle.rules.specs.Constants.{lifetime, hold, rest, return_age, a_slot, window_size}
use Rattle.rules.specs.Members.{Among}
use Rattle.law.specs.Ledger.{Status, Mark, Cell, Packet, Frame, Report, Ledger, put, tells, cell}

-- nothing was done under this log-on yet
abbrev pub fresh : ℕ → Ledger
fresh c = record {
  clock = c;
  tx = record { live = true; total = 0; packet = λ i. record { key = 0; size = 0; born = 0 }; status = λ i. Status.Pending; oldest = 0; used = 0; sent = λ n. record { packet = 0; part = 0; slot = 0; mark = Mark.InFlight }; count = 0 };
  rx = record { live = true; got = λ n. false; place = λ p. record { since = 0; holds = λ b. Cell.Empty }; handed = λ i. false };
  frames = [];
  reports = [];
}

-- ## a slot

-- st is the status of the packets at the slot c: only pending packets expire, and none of 74 slots stays pending
abbrev pub Ages : Ledger → ℕ → (ℕ → Status) → Type 0
Ages L c st =
    (i : ℕ) → i < L.tx.total →
    ((st i ≡ L.tx.status i) ⊎ ((L.tx.status i ≡ Status.Pending) × (st i ≡ Status.Expired)))
    × (L.tx.live ≡ true → st i ≡ Status.Pending → c < (L.tx.packet i).born + lifetime)

abbrev pub ticked : ℕ → (ℕ → Status) → Ledger → Ledger
ticked c st L = record {
  clock = c;
  tx = record {
    live = L.tx.live;
    total = L.tx.total;
    packet = L.tx.packet;
    status = st;
    oldest = L.tx.oldest;
    used = L.tx.used;
    sent = L.tx.sent;
    count = cond (nat_lt L.clock c) 0 L.tx.count;
  };
  rx = record {
    live = L.rx.live;
    got = L.rx.got;
    place = λ p. record { since = (L.rx.place p).since; holds = λ b. cond (L.rx.live && nat_le ((L.rx.place p).since + hold) c) Cell.Empty ((L.rx.place p).holds b) };
    handed = L.rx.handed;
  };
  frames = L.frames;
  reports = L.reports;
}

-- ## accept

-- no number was last used for packet j
abbrev pub Unsent : Ledger → ℕ → Type 0
Unsent L j = (n : ℕ) → n < L.tx.used → (L.tx.sent n).packet ≢ j

-- the packet j no longer keeps its reference number: it is confirmed, or expired and either rested or never sent
abbrev pub Done : Ledger → ℕ → Type 0
Done L j = (L.tx.status j ≡ Status.Confirmed) ⊎ ((L.tx.status j ≡ Status.Expired) × (((L.tx.packet j).born + rest ≤ L.clock) ⊎ Unsent L j))

abbrev pub Accepts : Ledger → Packet → Type 0
Accepts L p = record {
  live : L.tx.live ≡ true;
  now : p.born ≡ L.clock;
  some : 1 ≤ p.size;
  free : (j : ℕ) → j < L.tx.total → (L.tx.packet j).key ≡ p.key → Done L j;
}

abbrev pub accepted : Packet → Ledger → Ledger
accepted p L = record {
  clock = L.clock;
  tx = record {
    live = L.tx.live;
    total = suc L.tx.total;
    packet = put L.tx.packet L.tx.total p;
    status = put L.tx.status L.tx.total Status.Pending;
    oldest = L.tx.oldest;
    used = L.tx.used;
    sent = L.tx.sent;
    count = L.tx.count;
  };
  rx = record { live = L.rx.live; got = L.rx.got; place = L.rx.place; handed = put L.rx.handed L.tx.total false };
  frames = L.frames;
  reports = L.reports;
}

-- ## send of the piece b of packet i under the number n

abbrev pub Sends : Ledger → ℕ → ℕ → ℕ → Type 0
Sends L n i b = record {
  live : L.tx.live ≡ true;
  room : L.tx.count < a_slot;
  from : L.tx.oldest ≤ n;
  to : n < L.tx.oldest + window_size;
  open? : (n ≡ L.tx.used) ⊎ ((n < L.tx.used) × ((L.tx.sent n).mark ≡ Mark.Returned));
  known : i < L.tx.total;
  pending : L.tx.status i ≡ Status.Pending;
  piece : b < (L.tx.packet i).size;
  waits : (m : ℕ) → m < L.tx.used → (L.tx.sent m).packet ≡ i → (L.tx.sent m).part ≡ b → (L.tx.sent m).mark ≡ Mark.Returned;
}

abbrev pub sending : ℕ → ℕ → ℕ → Ledger → Ledger
sending n i b L = record {
  clock = L.clock;
  tx = record {
    live = L.tx.live;
    total = L.tx.total;
    packet = L.tx.packet;
    status = L.tx.status;
    oldest = L.tx.oldest;
    used = max L.tx.used (suc n);
    sent = put L.tx.sent n (record { packet = i; part = b; slot = L.clock; mark = Mark.InFlight });
    count = suc L.tx.count;
  };
  rx = L.rx;
  frames = record { number = n; packet = i; part = b; slot = L.clock } ∷ L.frames;
  reports = L.reports;
}

-- ## bring of a data frame

-- the frame f comes in time, and neither its number nor its BSN is held yet. All other frames are refused, and change nothing
abbrev pub Comes : ℕ → Ledger → Frame → Type 0
Comes d1 L f = record {
  live : L.rx.live ≡ true;
  underway : Among f L.frames;
  timely : L.clock ≤ f.slot + d1;
  awaited : L.rx.got f.number ≡ false;
  apart : cell L f.packet f.part ≡ Cell.Empty;
}

-- the slot of the place's opening is o: now if the place was empty, else what it was
abbrev pub Opens : Ledger → Frame → ℕ → Type 0
Opens L f o =
    (((b : ℕ) → cell L f.packet b ≡ Cell.Empty) × (o ≡ L.clock))
    ⊎ (((b : ℕ) × (j : ℕ) × (cell L f.packet b ≡ Cell.From j)) × (o ≡ (L.rx.place (L.tx.packet f.packet).key).since))

-- what the place holds with f
abbrev pub with_frame : Ledger → Frame → ℕ → Cell
with_frame L f = put (L.rx.place (L.tx.packet f.packet).key).holds f.part (Cell.From f.packet)

-- all pieces are there
abbrev pub Full : Ledger → Frame → Type 0
Full L f = (b : ℕ) → b < (L.tx.packet f.packet).size → with_frame L f b ≢ Cell.Empty

abbrev pub landed : Frame → ℕ → Ledger → Ledger
landed f o L = record {
  clock = L.clock;
  tx = L.tx;
  rx = record {
    live = L.rx.live;
    got = put L.rx.got f.number true;
    place = put L.rx.place (L.tx.packet f.packet).key (record { since = o; holds = with_frame L f });
    handed = L.rx.handed;
  };
  frames = L.frames;
  reports = L.reports;
}

abbrev pub handed_up : Frame → Ledger → Ledger
handed_up f L = record {
  clock = L.clock;
  tx = L.tx;
  rx = record {
    live = L.rx.live;
    got = put L.rx.got f.number true;
    place = put L.rx.place (L.tx.packet f.packet).key (record { since = 0; holds = λ b. Cell.Empty });
    handed = put L.rx.handed f.packet true;
  };
  frames = L.frames;
  reports = L.reports;
}

-- ## report

abbrev pub Lowest : Ledger → ℕ → Type 0
Lowest L R = ((n : ℕ) → n < R → L.rx.got n ≡ true) × (L.rx.got R ≡ false)

abbrev pub reported : ℕ → Ledger → Ledger
reported R L = record {
  clock = L.clock;
  tx = L.tx;
  rx = L.rx;
  frames = L.frames;
  reports = record { low = R; flag = λ n. nat_lt R n && (nat_le n (R + 8) && L.rx.got n); slot = L.clock } ∷ L.reports;
}

-- ## bring of a report

abbrev pub judged : Mark → Bool → Bool → Mark
judged Mark.InFlight true old = Mark.Acked
judged Mark.InFlight false true = Mark.Returned
judged Mark.InFlight false false = Mark.InFlight
judged Mark.Acked told old = Mark.Acked
judged Mark.Returned told old = Mark.Returned

-- the mark of the number n after the report r
abbrev pub after : Ledger → Report → ℕ → Mark
after L r n = judged (L.tx.sent n).mark (tells r n) (nat_le ((L.tx.sent n).slot + return_age) L.clock)

-- A is the oldest number not acknowledged, where the marks are mk
abbrev pub Oldest : Ledger → (ℕ → Mark) → ℕ → Type 0
Oldest L mk A = record {
  up : L.tx.oldest ≤ A;
  within : A ≤ L.tx.used;
  past : (n : ℕ) → L.tx.oldest ≤ n → n < A → mk n ≡ Mark.Acked;
  stops : A < L.tx.used → mk A ≡ Mark.Acked → ⊥;
}

-- the piece b of packet i has an acknowledged number, where the marks are mk
abbrev pub Reached : Ledger → (ℕ → Mark) → ℕ → ℕ → Type 0
Reached L mk i b = (n : ℕ) × (n < L.tx.used) × (mk n ≡ Mark.Acked) × ((L.tx.sent n).packet ≡ i) × ((L.tx.sent n).part ≡ b)

-- st is the status of the packets, where the marks are mk: only pending packets are confirmed, and only if all pieces have an acknowledged number
abbrev pub Confirms : Ledger → (ℕ → Mark) → (ℕ → Status) → Type 0
Confirms L mk st =
    (i : ℕ) → i < L.tx.total →
    (st i ≡ L.tx.status i)
    ⊎ ((L.tx.status i ≡ Status.Pending) × (st i ≡ Status.Confirmed) × ((b : ℕ) → b < (L.tx.packet i).size → Reached L mk i b))

-- the report r comes in time, and is not refused
abbrev pub Hears : ℕ → Ledger → Report → Type 0
Hears d2 L r = record {
  live : L.tx.live ≡ true;
  underway : Among r L.reports;
  timely : L.clock ≤ r.slot + d2;
  current : L.tx.oldest ≤ r.low;
}

-- the sending half with the marks mk, the oldest number A and the packets' status st
abbrev pub marked : (ℕ → Mark) → ℕ → (ℕ → Status) → Ledger → Ledger
marked mk A st L = record {
  clock = L.clock;
  tx = record {
    live = L.tx.live;
    total = L.tx.total;
    packet = L.tx.packet;
    status = st;
    oldest = A;
    used = L.tx.used;
    sent = λ n. record { packet = (L.tx.sent n).packet; part = (L.tx.sent n).part; slot = (L.tx.sent n).slot; mark = mk n };
    count = L.tx.count;
  };
  rx = L.rx;
  frames = L.frames;
  reports = L.reports;
}

-- ## the lanes lose frames, and a half is left for good

abbrev pub lost : List Frame → List Report → Ledger → Ledger
lost fs rs L = record { clock = L.clock; tx = L.tx; rx = L.rx; frames = fs; reports = rs }

abbrev pub sender_left : Ledger → Ledger
sender_left L = record {
  clock = L.clock;
  tx = record { live = false; total = L.tx.total; packet = L.tx.packet; status = L.tx.status; oldest = L.tx.oldest; used = L.tx.used; sent = L.tx.sent; count = L.tx.count };
  rx = L.rx;
  frames = L.frames;
  reports = L.reports;
}

abbrev pub receiver_left : Ledger → Ledger
receiver_left L = record {
  clock = L.clock;
  tx = L.tx;
  rx = record { live = false; got = L.rx.got; place = L.rx.place; handed = L.rx.handed };
  frames = L.frames;
  reports = L.reports;
}

-- ## runs

-- a ledger that some list of steps leads to, where data frames come at most d1 slots late and reports at most d2
pub data Run (d1 d2 : ℕ) : Ledger → Type 0 where
  start : (c : ℕ) → Run d1 d2 (fresh c)
  slot : {L : Ledger} → Run d1 d2 L → (c : ℕ) → L.clock ≤ c → (st : ℕ → Status) → Ages L c st → Run d1 d2 (ticked c st L)
  accept : {L : Ledger} → Run d1 d2 L → (p : Packet) → Accepts L p → Run d1 d2 (accepted p L)
  send : {L : Ledger} → Run d1 d2 L → (n i b : ℕ) → Sends L n i b → Run d1 d2 (sending n i b L)
  land : {L : Ledger} → Run d1 d2 L → (f : Frame) → Comes d1 L f → (Full L f → ⊥) → (o : ℕ) → Opens L f o → Run d1 d2 (landed f o L)
  hand : {L : Ledger} → Run d1 d2 L → (f : Frame) → Comes d1 L f → Full L f → Run d1 d2 (handed_up f L)
  report : {L : Ledger} → Run d1 d2 L → (R : ℕ) → Lowest L R → Run d1 d2 (reported R L)
  hear : {L : Ledger} → Run d1 d2 L → (r : Report) → Hears d2 L r → (A : ℕ) → Oldest L (after L r) A → (st : ℕ → Status) → Confirms L (after L r) st → Run d1 d2 (marked (after L r) A st L)
  lose : {L : Ledger} → Run d1 d2 L → (fs : List Frame) (rs : List Report) → ((f : Frame) → Among f fs → Among f L.frames) → ((r : Report) → Among r rs → Among r L.reports) → Run d1 d2 (lost fs rs L)
  leave_sender : {L : Ledger} → Run d1 d2 L → Run d1 d2 (sender_left L)
  leave_receiver : {L : Ledger} → Run d1 d2 L → Run d1 d2 (receiver_left L)
