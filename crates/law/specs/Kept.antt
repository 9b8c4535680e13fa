-- What is proved of logs: the law, from a ledger for each direction and log-on; and that the receiving half's answers are such steps.
use Rattle.std.specs.Prelude.{◌≡◌, ℕ, ◌+◌, ◌%◌, ◌≤◌, true, List}
use Rattle.rules.specs.Members.{Among}
use Rattle.law.specs.Ledger.{Ledger}
use Rattle.law.specs.Ledger as ledger
use Rattle.law.specs.Steps.{Run}
use Rattle.rules.specs.Receiving.{Receiving, bring}
use Rattle.rules.specs.Receiving as half
use Rattle.law.specs.ReceivingTie.{Tied, carried}
use Rattle.law.specs.Log.{End, other, LogOn, Frame, Answer, Event, Entry, shown, Holds, Log}
use Rattle.law.specs.Laws.{LastAccept, Laws}
use Rattle.law.specs.Logged.{ShowsReceiver, Goes, Logged}

-- delay e is the delay of the lane that the end e sends on
abbrev pub LogsKeepLaws : Type 0
LogsKeepLaws =
    (delay : End → ℕ) → delay End.Ground + delay End.Air ≤ 1 → (log : Log) →
    ((e : End) (l : LogOn) → (L : Ledger) × (B : ℕ → List ℕ) × Logged (delay e) (delay (other e)) e l L B log) →
    Laws log

-- an answer of the receiving half, as the log tells it
abbrev pub told : half.Answer → Answer
told half.Answer.Held = Answer.Held
told (half.Answer.Packet q rn octets) = Answer.Packet q rn octets
told (half.Answer.Refused n) = Answer.Refused n

-- only what is received changes
abbrev pub SameElse : Ledger → Ledger → Type 0
SameElse L L' = (L'.clock ≡ L.clock) × (L'.tx ≡ L.tx) × (L'.frames ≡ L.frames) × (L'.reports ≡ L.reports) × (L'.rx.live ≡ L.rx.live)

-- whatever the receiving half answers to a data frame in time is a step of the ledger beside the log
abbrev pub HalfGoes : Type 0
HalfGoes =
    (d1 d2 : ℕ) → d1 + d2 ≤ 1 → (e : End) (l : LogOn) (V : Receiving) (L : Ledger) (B : ℕ → List ℕ) → Run d1 d2 L → Tied V L B →
    (f : ledger.Frame) → L.rx.live ≡ true → Among f L.frames → L.clock ≤ f.slot + d1 →
    (y : Entry) (x : Frame) → y.event ≡ Event.Brought (other e) x (told (bring V (f.number % 256) (carried L B f) L.clock).0) → Holds (other e) l y →
    (L' : Ledger) × Goes d1 d2 e l L B y L' B × Tied (bring V (f.number % 256) (carried L B f) L.clock).1 L' B × SameElse L L'

-- what the receiving half shows is what the ledger has
abbrev pub HalfShows : Type 0
HalfShows =
    (V : Receiving) (L : Ledger) (B : ℕ → List ℕ) → Tied V L B → (e : End) (y : Entry) → (shown e y).awaits ≡ V.oldest → (shown e y).flags ≡ V.flags → ShowsReceiver L e y

-- a log has at most one last accept of a log-on, Q and RN
abbrev pub LastIsOne : Type 0
LastIsOne = (e : End) (l : LogOn) (q rn : ℕ) (log : Log) (a b : LastAccept e l q rn log) → (a.newer ≡ b.newer) × (a.accept ≡ b.accept) × (a.older ≡ b.older)
