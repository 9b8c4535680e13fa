-- Two ends over a channel, by their models; the sending half is left open: S is its model, SentBy its tie to the ledger.
use Rattle.std.specs.Prelude.{◌≡◌, ℕ, ◌+◌, ◌%◌, ◌≤◌, Bool, true, false, List, ◌≢◌}
use Rattle.rules.specs.Members.{Among}
use Rattle.law.specs.Ledger.{Sender, Report, Ledger}
use Rattle.law.specs.Ledger as ledger
use Rattle.rules.specs.Receiving.{Bdu, Receiving, new}
use Rattle.law.specs.ReceivingTie.{Tied, carried}
use Rattle.law.specs.ReceivingFollows.{Tells}
use Rattle.law.specs.Log.{End, other, LogOn, Entry, shown}

-- a frame underway: data of a log-on with its number and BDU, or a report with R and flags; and the slot of its put
pub data Message : Type 0 where
  DataFrame : LogOn → ℕ → Bdu → Message
  ReportFrame : LogOn → ℕ → List Bool → Message

pub record Wire : Type 0 where
  pub message : Message
  pub slot : ℕ

module _ (S : Type 0) where
  -- an end: its log-on, its sending half and its receiving half
  pub record EndState : Type 0 where
    pub log_on : LogOn
    pub sender : S
    pub receiver : Receiving

  -- lane e has the frames underway that the end e sent
  pub record World : Type 0 where
    pub clock : ℕ
    pub ends : End → EndState
    pub lane : End → List Wire

  -- what an entry shows is what the ends have
  pub record Shows (A : S → ℕ) (acks : S → List Bool) (W : World) (y : Entry) : Type 0 where
    pub slot : y.slot ≡ W.clock
    pub log_on : (e : End) → (shown e y).log_on ≡ (W.ends e).log_on
    pub oldest : (e : End) → (shown e y).oldest ≡ A (W.ends e).sender
    pub acknowledged : (e : End) → (shown e y).acknowledged ≡ acks (W.ends e).sender
    pub awaits : (e : End) → (shown e y).awaits ≡ (W.ends e).receiver.oldest
    pub flags : (e : End) → (shown e y).flags ≡ (W.ends e).receiver.flags

module _ (S : Type 0) (Fresh : S → Type 0) (SentBy : S → ℕ → Sender → (ℕ → List ℕ) → Type 0) (delay : End → ℕ) where
  -- how the end e stands to the log-on l that it sends under: it holds it; not yet; or it left it, and will not come back
  pub data SenderStands (e : End) (l : LogOn) (W : World S) (L : Ledger) (B : ℕ → List ℕ) : Type 0 where
    holding : (W.ends e).log_on ≡ l → L.tx.live ≡ true → SentBy (W.ends e).sender L.clock L.tx B → SenderStands e l W L B
    before : ((W.ends e).log_on ≢ l) → L.tx.live ≡ true → ((s : S) → Fresh s → SentBy s L.clock L.tx B) → SenderStands e l W L B
    gone : ((W.ends e).log_on ≢ l) → L.tx.live ≡ false → l.number ≤ (W.ends e).log_on.number → SenderStands e l W L B

  -- how the other end stands to it
  pub data ReceiverStands (e : End) (l : LogOn) (W : World S) (L : Ledger) (V : Receiving) : Type 0 where
    listens : (W.ends e).log_on ≡ l → L.rx.live ≡ true → V ≡ (W.ends e).receiver → ReceiverStands e l W L V
    not_yet : ((W.ends e).log_on ≢ l) → L.rx.live ≡ true → V ≡ new → ReceiverStands e l W L V
    left : ((W.ends e).log_on ≢ l) → L.rx.live ≡ false → l.number ≤ (W.ends e).log_on.number → ReceiverStands e l W L V

  -- the world and the ledger of the direction from e under l say the same
  pub record Core (e : End) (l : LogOn) (W : World S) (L : Ledger) (B : ℕ → List ℕ) (V : Receiving) : Type 0 where
    pub clock : L.clock ≡ W.clock
    pub tied : Tied V L B
    pub sends : SenderStands e l W L B
    pub hears : ReceiverStands (other e) l W L V
    pub data' : (w : Wire) → Among w (W.lane e) → (n : ℕ) (u : Bdu) → w.message ≡ Message.DataFrame l n u → L.clock ≤ w.slot + delay e
        → (f : ledger.Frame) × Among f L.frames × (f.slot ≡ w.slot) × (n ≡ f.number % 256) × (u ≡ carried L B f)
    pub reports : (w : Wire) → Among w (W.lane (other e)) → (R : ℕ) (fs : List Bool) → w.message ≡ Message.ReportFrame l R fs → L.clock ≤ w.slot + delay (other e)
        → (r : Report) × Among r L.reports × (r.slot ≡ w.slot) × Tells (R, fs) r
