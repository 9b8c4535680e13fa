-- The steps of a run of two ends over a channel, and the worlds and logs that they lead to. The sending half's rules are left open, as relations.
use Rattle.std.specs.Prelude.{◌≡◌, ℕ, ◌+◌, ◌/◌, ◌%◌, ◌<◌, ◌≤◌, Bool, true, ◌⊎◌, List, [], ◌∷◌, ◌≢◌}
use Rattle.rules.specs.Members.{Among}
use Rattle.law.specs.Ledger.{Status, Packet, Sender, Report, Ledger, put}
use Rattle.law.specs.Steps.{Ages, ticked, accepted, sending, after, Oldest, marked, Run}
use Rattle.law.specs.Steps as steps
use Rattle.rules.specs.Receiving.{Bdu, new, bring, slot}
use Rattle.law.specs.ReceivingTie.{Body, carried}
use Rattle.law.specs.ReceivingFollows.{Tells}
use Rattle.law.specs.Log.{End, other, LogOn, Frame, Answer, Event, Entry, shown, Log}
use Rattle.law.specs.Laws.{Laws}
use Rattle.law.specs.Noted.{q_of, rn_of}
use Rattle.law.specs.Logged.{ShowsSender}
use Rattle.law.specs.Kept.{told}
use Rattle.law.specs.World.{Message, Wire, World, Shows}

-- the rules of a sending half, with the count of its end: it is new; it does this in this slot and is then the other; it goes from a slot to a later one. The last two are the A and the acknowledged numbers that it shows
pub record Rules (S : Type 0) : Type 1 where
  pub Fresh : S → Type 0
  pub Accepts : S → ℕ → ℕ → ℕ → List ℕ → S → Type 0
  pub Sends : S → ℕ → ℕ → Bdu → S → Type 0
  pub Hears : S → ℕ → ℕ → List Bool → Answer → S → Type 0
  pub Ticks : S → ℕ → ℕ → S → Type 0
  pub oldest : S → ℕ
  pub acknowledged : S → List Bool

-- a report that a sending half s hears, and is then s': the ledger's step, or a refusal because the report is old
abbrev pub HearsSo : {S : Type 0} → (S → ℕ → Sender → (ℕ → List ℕ) → Type 0) → S → Answer → Ledger → (ℕ → List ℕ) → S → Report → Type 0
HearsSo SentBy s answer L B s' r =
    ((n : ℕ) × (answer ≡ Answer.Refused n) × (r.low < L.tx.oldest) × (s' ≡ s))
    ⊎ ((A : ℕ) × (st : ℕ → Status) × (ps : List (ℕ × ℕ)) × (answer ≡ Answer.Confirmed ps) × (L.tx.oldest ≤ r.low) × Oldest L (after L r) A × steps.Confirms L (after L r) st
    × ((q rn : ℕ) → Among (q, rn) ps → (i : ℕ) × (i < L.tx.total) × (L.tx.status i ≡ Status.Pending) × (st i ≡ Status.Confirmed) × (q_of L i ≡ q) × (rn_of L i ≡ rn))
    × SentBy s' L.clock (marked (after L r) A st L).tx B)

-- the tie of a sending half to the ledger: what has to be proved of it
pub record SendingTie (S : Type 0) (rules : Rules S) (delay : End → ℕ) : Type 1 where
  pub SentBy : S → ℕ → Sender → (ℕ → List ℕ) → Type 0
  pub starts : (c : ℕ) (B : ℕ → List ℕ) (s : S) → rules.Fresh s → SentBy s c (steps.fresh c).tx B
  pub shows : (s : S) (L : Ledger) (B : ℕ → List ℕ) → SentBy s L.clock L.tx B → (e : End) (y : Entry) → (shown e y).oldest ≡ rules.oldest s → (shown e y).acknowledged ≡ rules.acknowledged s → ShowsSender L e y
  pub accepts : (e : End) (s s' : S) (q rn : ℕ) (xs : List ℕ) (L : Ledger) (B : ℕ → List ℕ) → rules.Accepts s L.clock q rn xs s' → L.tx.live ≡ true → SentBy s L.clock L.tx B
      → Run (delay e) (delay (other e)) L → (p : Packet) × steps.Accepts L p × Body p xs × (p.key / 4 ≡ q) × (p.key % 4 ≡ rn) × SentBy s' L.clock (accepted p L).tx (put B L.tx.total xs)
  pub sends : (e : End) (s s' : S) (n : ℕ) (x : Bdu) (L : Ledger) (B : ℕ → List ℕ) → rules.Sends s L.clock n x s' → L.tx.live ≡ true → SentBy s L.clock L.tx B
      → Run (delay e) (delay (other e)) L → (m i b : ℕ) × steps.Sends L m i b × (n ≡ m % 256) × (x ≡ carried L B (record { number = m; packet = i; part = b; slot = L.clock })) × SentBy s' L.clock (sending m i b L).tx B
  pub hears : (e : End) (s s' : S) (R : ℕ) (fs : List Bool) (answer : Answer) (L : Ledger) (B : ℕ → List ℕ) → rules.Hears s L.clock R fs answer s' → L.tx.live ≡ true → SentBy s L.clock L.tx B
      → Run (delay e) (delay (other e)) L → (r : Report) → Among r L.reports → L.clock ≤ r.slot + delay (other e) → Tells (R, fs) r → HearsSo SentBy s answer L B s' r
  pub ticks : (e : End) (s s' : S) (c : ℕ) (L : Ledger) (B : ℕ → List ℕ) → L.clock ≤ c → rules.Ticks s L.clock c s' → L.tx.live ≡ true → SentBy s L.clock L.tx B
      → Run (delay e) (delay (other e)) L → (st : ℕ → Status) × Ages L c st × SentBy s' c (ticked c st L).tx B
  pub fresh_ticks : (e : End) (c : ℕ) (L : Ledger) (B : ℕ → List ℕ) → L.clock ≤ c → Run (delay e) (delay (other e)) L → L.tx.live ≡ true → ((s : S) → rules.Fresh s → SentBy s L.clock L.tx B)
      → (st : ℕ → Status) × Ages L c st × ((s : S) → rules.Fresh s → SentBy s c (ticked c st L).tx B)

module _ (S : Type 0) (rules : Rules S) (delay : End → ℕ) (W W' : World S) (y : Entry) where
  -- the lane of e has no frame more
  abbrev pub Fewer : End → Type 0
  Fewer e = (w : Wire) → Among w (W'.lane e) → Among w (W.lane e)

  -- the lane of e has at most w more
  abbrev pub AtMost : Wire → End → Type 0
  AtMost w e = (v : Wire) → Among v (W'.lane e) → (v ≡ w) ⊎ Among v (W.lane e)

  -- the end x logs on
  pub record LogsOn (x : End) : Type 0 where
    pub to : LogOn
    pub event : y.event ≡ Event.LoggedOn x
    pub greater : (W.ends x).log_on.number < to.number
    pub now : (W'.ends x).log_on ≡ to
    pub sender : rules.Fresh (W'.ends x).sender
    pub receiver : (W'.ends x).receiver ≡ new
    pub same : W'.ends (other x) ≡ W.ends (other x)
    pub clock : W'.clock ≡ W.clock
    pub lanes : (e : End) → Fewer e

  pub record Accepts (x : End) : Type 0 where
    pub q : ℕ
    pub rn : ℕ
    pub octets : List ℕ
    pub event : y.event ≡ Event.Accepted x q rn octets
    pub rule : rules.Accepts (W.ends x).sender W.clock q rn octets (W'.ends x).sender
    pub log_on : (W'.ends x).log_on ≡ (W.ends x).log_on
    pub receiver : (W'.ends x).receiver ≡ (W.ends x).receiver
    pub same : W'.ends (other x) ≡ W.ends (other x)
    pub clock : W'.clock ≡ W.clock
    pub lanes : (e : End) → Fewer e

  pub record Sends (x : End) : Type 0 where
    pub octets : List ℕ
    pub event : y.event ≡ Event.Sent x octets
    pub number : ℕ
    pub bdu : Bdu
    pub rule : rules.Sends (W.ends x).sender W.clock number bdu (W'.ends x).sender
    pub log_on : (W'.ends x).log_on ≡ (W.ends x).log_on
    pub receiver : (W'.ends x).receiver ≡ (W.ends x).receiver
    pub same : W'.ends (other x) ≡ W.ends (other x)
    pub clock : W'.clock ≡ W.clock
    pub own : AtMost (record { message = Message.DataFrame (W.ends x).log_on number bdu; slot = W.clock }) x
    pub others : Fewer (other x)

  pub record Reports (x : End) : Type 0 where
    pub octets : List ℕ
    pub event : y.event ≡ Event.Reported x octets
    pub same : (e : End) → W'.ends e ≡ W.ends e
    pub clock : W'.clock ≡ W.clock
    pub own : AtMost (record { message = Message.ReportFrame (W.ends x).log_on (W.ends x).receiver.oldest (W.ends x).receiver.flags; slot = W.clock }) x
    pub others : Fewer (other x)

  -- the end x is brought data of its log-on
  pub record TakesData (x : End) : Type 0 where
    pub wire : Wire
    pub number : ℕ
    pub bdu : Bdu
    pub underway : Among wire (W.lane (other x))
    pub message : wire.message ≡ Message.DataFrame (W.ends x).log_on number bdu
    pub timely : W.clock ≤ wire.slot + delay (other x)
    pub event : y.event ≡ Event.Brought x (Frame.Data (W.ends x).log_on) (told (bring (W.ends x).receiver number bdu W.clock).0)
    pub receiver : (W'.ends x).receiver ≡ (bring (W.ends x).receiver number bdu W.clock).1
    pub log_on : (W'.ends x).log_on ≡ (W.ends x).log_on
    pub sender : (W'.ends x).sender ≡ (W.ends x).sender
    pub same : W'.ends (other x) ≡ W.ends (other x)
    pub clock : W'.clock ≡ W.clock
    pub lanes : (e : End) → Fewer e

  -- the end x is brought a report of its log-on
  pub record TakesReport (x : End) : Type 0 where
    pub wire : Wire
    pub number : ℕ
    pub flags : List Bool
    pub answer : Answer
    pub kind : ((ps : List (ℕ × ℕ)) × (answer ≡ Answer.Confirmed ps)) ⊎ ((n : ℕ) × (answer ≡ Answer.Refused n))
    pub underway : Among wire (W.lane (other x))
    pub message : wire.message ≡ Message.ReportFrame (W.ends x).log_on number flags
    pub timely : W.clock ≤ wire.slot + delay (other x)
    pub event : y.event ≡ Event.Brought x (Frame.Report (W.ends x).log_on) answer
    pub rule : rules.Hears (W.ends x).sender W.clock number flags answer (W'.ends x).sender
    pub log_on : (W'.ends x).log_on ≡ (W.ends x).log_on
    pub receiver : (W'.ends x).receiver ≡ (W.ends x).receiver
    pub same : W'.ends (other x) ≡ W.ends (other x)
    pub clock : W'.clock ≡ W.clock
    pub lanes : (e : End) → Fewer e

  pub record Ticks : Type 0 where
    pub event : y.event ≡ Event.Ticked
    pub later : W.clock ≤ W'.clock
    pub log_on : (e : End) → (W'.ends e).log_on ≡ (W.ends e).log_on
    pub sender : (e : End) → rules.Ticks (W.ends e).sender W.clock W'.clock (W'.ends e).sender
    pub receiver : (e : End) → (W'.ends e).receiver ≡ slot W'.clock (W.ends e).receiver
    pub lanes : (e : End) → Fewer e

  -- a refusal, or an answer of none; a report of the end's own log-on is refused by `TakesReport` only
  pub record Nothing : Type 0 where
    pub event : (y.event ≡ Event.Quiet) ⊎ ((x : End) × (f : Frame) × (n : ℕ) × (y.event ≡ Event.Brought x f (Answer.Refused n)) × (f ≢ Frame.Report (W.ends x).log_on))
    pub same : (e : End) → W'.ends e ≡ W.ends e
    pub clock : W'.clock ≡ W.clock
    pub lanes : (e : End) → Fewer e

  pub data Step : Type 0 where
    log_on : (x : End) → LogsOn x → Step
    accept : (x : End) → Accepts x → Step
    send : (x : End) → Sends x → Step
    report : (x : End) → Reports x → Step
    take_data : (x : End) → TakesData x → Step
    take_report : (x : End) → TakesReport x → Step
    tick : Ticks → Step
    none : Nothing → Step

-- the worlds and logs that a run has come to
pub data Reached (S : Type 0) (rules : Rules S) (delay : End → ℕ) : World S → Log → Type 0 where
  begun : (W : World S) → W.clock ≡ 0 → ((e : End) → ((W.ends e).log_on ≡ record { aircraft = 0; number = 0 }) × rules.Fresh (W.ends e).sender × ((W.ends e).receiver ≡ new)) → ((e : End) → W.lane e ≡ []) → Reached S rules delay W []
  went : {W : World S} {log : Log} → Reached S rules delay W log → (W' : World S) (y : Entry) → Step S rules delay W W' y → Shows S rules.oldest rules.acknowledged W' y → Reached S rules delay W' (y ∷ log)

-- the law of the link: every log of every run is right, if the sending half is tied to the ledger
abbrev pub LinkLaw : Type 1
LinkLaw =
    (S : Type 0) (rules : Rules S) (delay : End → ℕ) → delay End.Ground + delay End.Air ≤ 1 → SendingTie S rules delay → (W : World S) (log : Log) → Reached S rules delay W log → Laws log
