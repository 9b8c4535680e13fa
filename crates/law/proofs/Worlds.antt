-- Each event of a run of two ends is a step of the ledger of each direction and log-on. The sending half's part is assumed, as the parameters and premises say.
use Rattle.std.proofs.Common.{◌≡◌, ℕ, suc, ◌+◌, ◌/◌, ◌%◌, ◌<◌, ◌≤◌, Bool, true, false, cond, ◌&&◌, ltb, leb, ◌⊎◌, List, ◌∷◌, get_or, sym, refl, ap, ◌∙◌, subst, inl, inr, ⊎_elim, arith}
use Rattle.std.proofs.lemmas.Bool.{both_ways}
use Rattle.rules.specs.Members.{Among}
use Rattle.law.specs.Ledger.{Status, Packet, Sender, Report, Ledger, put}
use Rattle.law.specs.Ledger as ledger
use Rattle.law.specs.Steps.{Ages, ticked, accepted, sending, reported, after, Oldest, marked, sender_left, receiver_left, Run}
use Rattle.law.specs.Steps as steps
use Rattle.law.proofs.Base.{put_off}
use Rattle.law.proofs.Runs.{kept}
use Rattle.law.proofs.Taking.{as_sent}
use Rattle.rules.specs.Receiving.{Bdu, Receiving, empty, new, bring, slot, report}
use Rattle.rules.specs.Sending.{piece}
use Rattle.law.specs.ReceivingTie.{Body, SamePlace, Tied, carried}
use Rattle.law.specs.ReceivingFollows.{Tells}
use Rattle.law.proofs.ReceivingFollows.{follows}
use Rattle.law.specs.Log.{End, other, LogOn, Frame, Answer, Event, Entry, shown, Holds, Log}
use Rattle.law.specs.Laws.{Sends}
use Rattle.law.specs.Noted.{q_of, rn_of}
use Rattle.law.specs.Logged.{Unrelated, ShowsSender, ShowsReceiver, Goes, Logged}
use Rattle.law.specs.Kept.{told}
use Rattle.law.proofs.Keeping.{keeps, lanes}
use Rattle.law.proofs.Going.{goes, shows}
use Rattle.law.proofs.Concerns.{same_log_on}
use Rattle.law.specs.World.{Message, Wire, World, SenderStands, ReceiverStands, Core, Shows}

-- the BDU of a frame, by its packet and the packet's octets
abbrev carried_of : Packet → List ℕ → ledger.Frame → Bdu
carried_of p body f = record { q = p.key / 4; rn = p.key % 4; more = ltb (suc f.part) p.size; bsn = f.part; octets = piece body f.part }

module _ (S : Type 0) (Fresh : S → Type 0) (SentBy : S → ℕ → Sender → (ℕ → List ℕ) → Type 0) (delay : End → ℕ) (small : delay End.Ground + delay End.Air ≤ 1) (A : S → ℕ) (acks : S → List Bool)
    (show_law : (s : S) (L : Ledger) (B : ℕ → List ℕ) → SentBy s L.clock L.tx B → (e : End) (y : Entry) → (shown e y).oldest ≡ A s → (shown e y).acknowledged ≡ acks s → ShowsSender L e y) where
  -- the core of one direction and log-on, at a world
  abbrev At : End → LogOn → World S → Ledger → (ℕ → List ℕ) → Receiving → Type 0
  At = Core S Fresh SentBy delay

  -- an entry joins the log
  pub joins : (e : End) (l : LogOn) (W : World S) (L L' : Ledger) (B B' : ℕ → List ℕ) (V : Receiving) (log : Log) (y : Entry)
      → At e l W L' B' V → Shows S A acks W y → Logged (delay e) (delay (other e)) e l L B log → Goes (delay e) (delay (other e)) e l L B y L' B' → Logged (delay e) (delay (other e)) e l L' B' (y ∷ log)
  joins e l W L L' B B' V log y core sh old go =
      Logged.went old y go (sh.slot ∙ sym core.clock)
      (λ holds. sender core.sends (sym (sh.log_on e) ∙ holds))
      (λ holds. receiver core.hears (sym (sh.log_on (other e)) ∙ holds))
    where
      sender : SenderStands S Fresh SentBy delay e l W L' B' → (W.ends e).log_on ≡ l → ShowsSender L' e y
      sender (SenderStands.holding h live s) k = show_law (W.ends e).sender L' B' s e y (sh.oldest e) (sh.acknowledged e)
      sender (SenderStands.before h live s) k = absurd (h k)
      sender (SenderStands.gone h live n) k = absurd (h k)

      receiver : ReceiverStands S Fresh SentBy delay (other e) l W L' V → (W.ends (other e)).log_on ≡ l → ShowsReceiver L' (other e) y
      receiver (ReceiverStands.listens h live s) k = shows V L' B' core.tied (other e) y (sh.awaits (other e) ∙ ap (λ v. v.oldest) (sym s)) (sh.flags (other e) ∙ ap (λ v. v.flags) (sym s))
      receiver (ReceiverStands.not_yet h live s) k = absurd (h k)
      receiver (ReceiverStands.left h live n) k = absurd (h k)

  module _ (e : End) (l : LogOn) (W W' : World S) (L : Ledger) (B : ℕ → List ℕ) (V : Receiving) (core : At e l W L B V) where
    -- frames of this direction and log-on only get fewer
    abbrev FewerData : Type 0
    FewerData = (w : Wire) (n : ℕ) (u : Bdu) → Among w (W'.lane e) → w.message ≡ Message.DataFrame l n u → Among w (W.lane e)

    abbrev FewerReports : Type 0
    FewerReports = (w : Wire) (R : ℕ) (fs : List Bool) → Among w (W'.lane (other e)) → w.message ≡ Message.ReportFrame l R fs → Among w (W.lane (other e))

    -- the sending side is as it was
    sending_same : (L' : Ledger) → L'.clock ≡ L.clock → L'.tx ≡ L.tx → (W'.ends e).log_on ≡ (W.ends e).log_on → ((W.ends e).log_on ≡ l → (W'.ends e).sender ≡ (W.ends e).sender) → SenderStands S Fresh SentBy delay e l W' L' B
    sending_same L' c t o s = go core.sends
      where
        by : (s : S) → SentBy s L.clock L.tx B → SentBy s L'.clock L'.tx B
        by s h = subst (λ x. SentBy s x L'.tx B) (sym c) (subst (λ x. SentBy s L.clock x B) (sym t) h)

        go : SenderStands S Fresh SentBy delay e l W L B → SenderStands S Fresh SentBy delay e l W' L' B
        go (SenderStands.holding h live x) = SenderStands.holding (o ∙ h) (ap (λ x. x.live) t ∙ live) (subst (λ v. SentBy v L'.clock L'.tx B) (sym (s h)) (by (W.ends e).sender x))
        go (SenderStands.before h live x) = SenderStands.before (λ z. h (sym o ∙ z)) (ap (λ x. x.live) t ∙ live) (λ v f. by v (x v f))
        go (SenderStands.gone h live n) = SenderStands.gone (λ z. h (sym o ∙ z)) (ap (λ x. x.live) t ∙ live) (subst (λ x. l.number ≤ x.number) (sym o) n)

    -- the hearing side is as it was
    hearing_same : (L' : Ledger) → L'.rx.live ≡ L.rx.live → (W'.ends (other e)).log_on ≡ (W.ends (other e)).log_on → ((W.ends (other e)).log_on ≡ l → (W'.ends (other e)).receiver ≡ (W.ends (other e)).receiver)
        → ReceiverStands S Fresh SentBy delay (other e) l W' L' V
    hearing_same L' t o s = go core.hears
      where
        go : ReceiverStands S Fresh SentBy delay (other e) l W L V → ReceiverStands S Fresh SentBy delay (other e) l W' L' V
        go (ReceiverStands.listens h live x) = ReceiverStands.listens (o ∙ h) (t ∙ live) (x ∙ sym (s h))
        go (ReceiverStands.not_yet h live x) = ReceiverStands.not_yet (λ z. h (sym o ∙ z)) (t ∙ live) x
        go (ReceiverStands.left h live n) = ReceiverStands.left (λ z. h (sym o ∙ z)) (t ∙ live) (subst (λ x. l.number ≤ x.number) (sym o) n)

    -- what is underway is as it was
    data_same : (L' : Ledger) → L'.clock ≡ L.clock → L'.tx ≡ L.tx → L'.frames ≡ L.frames → FewerData
        → (w : Wire) → Among w (W'.lane e) → (n : ℕ) (u : Bdu) → w.message ≡ Message.DataFrame l n u → L'.clock ≤ w.slot + delay e
        → (f : ledger.Frame) × Among f L'.frames × (f.slot ≡ w.slot) × (n ≡ f.number % 256) × (u ≡ carried L' B f)
    data_same L' c t fr d w i n u m k =
        let x = core.data' w (d w n u i m) n u m (omega arith) in
        let same : carried L B x.0 ≡ carried L' B x.0 = ap (λ T. carried (record { clock = L.clock; tx = T; rx = L.rx; frames = L.frames; reports = L.reports }) B x.0) (sym t) in
        (x.0, subst (Among x.0) (sym fr) x.1, x.2, x.3, x.4 ∙ same)

    reports_same : (L' : Ledger) → L'.clock ≡ L.clock → L'.reports ≡ L.reports → FewerReports
        → (w : Wire) → Among w (W'.lane (other e)) → (R : ℕ) (fs : List Bool) → w.message ≡ Message.ReportFrame l R fs → L'.clock ≤ w.slot + delay (other e)
        → (r : Report) × Among r L'.reports × (r.slot ≡ w.slot) × Tells (R, fs) r
    reports_same L' c rs d w i R fs m k =
        let x = core.reports w (d w R fs i m) R fs m (omega arith) in (x.0, subst (Among x.0) (sym rs) x.1, x.2, x.3)

    -- an event of another direction or log-on
    pub apart : (y : Entry) → Unrelated e l y → W'.clock ≡ W.clock
        → (W'.ends e).log_on ≡ (W.ends e).log_on → ((W.ends e).log_on ≡ l → (W'.ends e).sender ≡ (W.ends e).sender)
        → (W'.ends (other e)).log_on ≡ (W.ends (other e)).log_on → ((W.ends (other e)).log_on ≡ l → (W'.ends (other e)).receiver ≡ (W.ends (other e)).receiver)
        → FewerData → FewerReports → Goes (delay e) (delay (other e)) e l L B y L B × At e l W' L B V
    apart y u c o s o' h d r = (
      Goes.apart u,
      record {
        clock = core.clock ∙ sym c;
        tied = core.tied;
        sends = sending_same L refl refl o s;
        hears = hearing_same L refl o' h;
        data' = λ w i n x m t. core.data' w (d w n x i m) n x m t;
        reports = λ w i R fs m t. core.reports w (r w R fs i m) R fs m t;
      },
    )

    -- the other end, holding l, is brought data of l
    pub brought : (log : Log) → Logged (delay e) (delay (other e)) e l L B log → (y : Entry) (w : Wire) (n : ℕ) (x : Bdu) → Among w (W.lane e) → w.message ≡ Message.DataFrame l n x → W.clock ≤ w.slot + delay e
        → (W.ends (other e)).log_on ≡ l → y.event ≡ Event.Brought (other e) (Frame.Data l) (told (bring (W.ends (other e)).receiver n x W.clock).0) → Holds (other e) l y
        → W'.clock ≡ W.clock → W'.ends e ≡ W.ends e → (W'.ends (other e)).log_on ≡ (W.ends (other e)).log_on → (W'.ends (other e)).receiver ≡ (bring (W.ends (other e)).receiver n x W.clock).1
        → FewerData → FewerReports → (L' : Ledger) × (V' : Receiving) × Goes (delay e) (delay (other e)) e l L B y L' B × At e l W' L' B V'
    brought log old y w n x i m t o ev holds c ee o' h d r = go core.hears
      where
        go : ReceiverStands S Fresh SentBy delay (other e) l W L V → (L' : Ledger) × (V' : Receiving) × Goes (delay e) (delay (other e)) e l L B y L' B × At e l W' L' B V'
        go (ReceiverStands.not_yet k live s) = absurd (k o)
        go (ReceiverStands.left k live z) = absurd (k o)
        go (ReceiverStands.listens k live s) =
            let cl = core.clock in
            let f = core.data' w i n x m (omega arith) in
            let same : bring (W.ends (other e)).receiver n x W.clock ≡ bring V (f.0.number % 256) (carried L B f.0) L.clock =
            ap (λ v. bring v n x W.clock) (sym s) ∙ ap (λ v. bring V v x W.clock) f.3 ∙ ap (λ v. bring V (f.0.number % 256) v W.clock) f.4 ∙ ap (bring V (f.0.number % 256) (carried L B f.0)) (sym cl) in
            let g = goes (delay e) (delay (other e)) (lanes delay small e) e l V L B (keeps (delay e) (delay (other e)) (lanes delay small e) e l old).0 core.tied f.0 live f.1 (let z = f.2 in omega arith)
            y (Frame.Data l) (ev ∙ ap (λ v. Event.Brought (other e) (Frame.Data l) (told v.0)) same) holds in
            let els = g.3 in (
              g.0,
              (bring V (f.0.number % 256) (carried L B f.0) L.clock).1,
              g.1,
              record {
                clock = els.0 ∙ core.clock ∙ sym c;
                tied = g.2;
                sends = sending_same g.0 els.0 els.1 (ap (λ v. v.log_on) ee) (λ _. ap (λ v. v.sender) ee);
                hears = ReceiverStands.listens (o' ∙ o) (els.4 ∙ live) (sym (h ∙ ap (λ v. v.1) same));
                data' = data_same g.0 els.0 els.1 els.2 d;
                reports = reports_same g.0 els.0 els.3 r;
              },
            )

    -- e, holding l, accepts a packet; the sending half's part is the premise `law`
    pub accepts : (log : Log) → Logged (delay e) (delay (other e)) e l L B log → (y : Entry) (q rn : ℕ) (xs : List ℕ) → y.event ≡ Event.Accepted e q rn xs → Holds e l y → (W.ends e).log_on ≡ l
        → (L.tx.live ≡ true → SentBy (W.ends e).sender L.clock L.tx B → (p : Packet) × steps.Accepts L p × Body p xs × (p.key / 4 ≡ q) × (p.key % 4 ≡ rn) × SentBy (W'.ends e).sender L.clock (accepted p L).tx (put B L.tx.total xs))
        → W'.clock ≡ W.clock → (W'.ends e).log_on ≡ (W.ends e).log_on → W'.ends (other e) ≡ W.ends (other e)
        → FewerData → FewerReports → (L' : Ledger) × (B' : ℕ → List ℕ) × Goes (delay e) (delay (other e)) e l L B y L' B' × At e l W' L' B' V
    accepts log old y q rn xs ev holds o law c o' ee d r = go core.sends
      where
        go : SenderStands S Fresh SentBy delay e l W L B → (L' : Ledger) × (B' : ℕ → List ℕ) × Goes (delay e) (delay (other e)) e l L B y L' B' × At e l W' L' B' V
        go (SenderStands.before k live s) = absurd (k o)
        go (SenderStands.gone k live z) = absurd (k o)
        go (SenderStands.holding k live s) =
            let a = law live s in
            let p = a.0 in
            let run = (keeps (delay e) (delay (other e)) (lanes delay small e) e l old).0 in
            let qq = a.3 in
            let rr = a.4 in (
              accepted p L,
              put B L.tx.total xs,
              Goes.accept p xs a.1 ((let z = ev in cc), holds),
              record {
                clock = core.clock ∙ sym c;
                tied = follows.accepts (delay e) (delay (other e)) (lanes delay small e) V L B run core.tied p xs a.2;
                sends = SenderStands.holding (o' ∙ o) live a.5;
                hears = hearing_same (accepted p L) refl (ap (λ v. v.log_on) ee) (λ _. ap (λ v. v.receiver) ee);
                data' = λ w i n u m t.
                    let x = core.data' w (d w n u i m) n u m t in
                    let f = x.0 in
                    let sl = x.2 in
                    let known = (as_sent (delay e) (delay (other e)) (lanes delay small e) L (kept (delay e) (delay (other e)) (lanes delay small e) run) f x.1 (omega arith)).known in
                    let same : carried L B f ≡ carried (accepted p L) (put B L.tx.total xs) f =
                    ap (λ v. carried_of v (B f.packet) f) (sym (put_off L.tx.packet L.tx.total p f.packet (λ z. omega arith)))
                    ∙ ap (λ v. carried_of (put L.tx.packet L.tx.total p f.packet) v f) (sym (put_off B L.tx.total xs f.packet (λ z. omega arith))) in
                    (f, x.1, x.2, x.3, x.4 ∙ same);
                reports = reports_same (accepted p L) refl refl r;
              },
            )

    -- e, holding l, sends a data frame, which is put on its lane or lost
    pub sent : (y : Entry) (w : Wire) (n : ℕ) (x : Bdu) → Sends e l y → (W.ends e).log_on ≡ l → w.message ≡ Message.DataFrame l n x → w.slot ≡ W.clock
        → (L.tx.live ≡ true → SentBy (W.ends e).sender L.clock L.tx B
        → (m i b : ℕ) × steps.Sends L m i b × (n ≡ m % 256) × (x ≡ carried L B (record { number = m; packet = i; part = b; slot = L.clock })) × SentBy (W'.ends e).sender L.clock (sending m i b L).tx B)
        → W'.clock ≡ W.clock → (W'.ends e).log_on ≡ (W.ends e).log_on → W'.ends (other e) ≡ W.ends (other e)
        → ((v : Wire) → Among v (W'.lane e) → (v ≡ w) ⊎ Among v (W.lane e)) → FewerReports → (L' : Ledger) × Goes (delay e) (delay (other e)) e l L B y L' B × At e l W' L' B V
    sent y w n x ev o msg at law c o' ee d r = go core.sends
      where
        go : SenderStands S Fresh SentBy delay e l W L B → (L' : Ledger) × Goes (delay e) (delay (other e)) e l L B y L' B × At e l W' L' B V
        go (SenderStands.before k live s) = absurd (k o)
        go (SenderStands.gone k live z) = absurd (k o)
        go (SenderStands.holding k live s) =
            let a = law live s in
            let f : ledger.Frame = record { number = a.0; packet = a.1; part = a.2; slot = L.clock } in
            let L' : Ledger = sending a.0 a.1 a.2 L in
            let nn = a.4 in
            let xx = a.5 in (
              L',
              Goes.send a.0 a.1 a.2 a.3 ev,
              record {
                clock = core.clock ∙ sym c;
                tied = core.tied;
                sends = SenderStands.holding (o' ∙ o) live a.6;
                hears = hearing_same L' refl (ap (λ v. v.log_on) ee) (λ _. ap (λ v. v.receiver) ee);
                data' = λ v i m u msg' t.
                    ⊎_elim
                    (λ z.
                    let e1 = ap (λ q. q.message) z in
                    let e2 = ap (λ q. q.slot) z in
                    (f, inl refl, core.clock ∙ sym at ∙ sym e2, (let q : m ≡ n = cc in q ∙ nn), (let q : u ≡ x = cc in q ∙ xx)))
                    (λ i'. let z = core.data' v i' m u msg' t in (z.0, inr z.1, z.2, z.3, z.4))
                    (d v i);
                reports = reports_same L' refl refl r;
              },
            )

    -- the other end, holding l, reports; the report is put on its lane or lost
    pub reports : (y : Entry) (w : Wire) → Unrelated e l y → (W.ends (other e)).log_on ≡ l → w.message ≡ Message.ReportFrame l (report (W.ends (other e)).receiver).0 (report (W.ends (other e)).receiver).1 → w.slot ≡ W.clock
        → W'.clock ≡ W.clock → W'.ends e ≡ W.ends e → W'.ends (other e) ≡ W.ends (other e)
        → FewerData → ((v : Wire) → Among v (W'.lane (other e)) → (v ≡ w) ⊎ Among v (W.lane (other e))) → (L' : Ledger) × Goes (delay e) (delay (other e)) e l L B y L' B × At e l W' L' B V
    reports y w un o msg at c ee oo d r = go core.hears
      where
        go : ReceiverStands S Fresh SentBy delay (other e) l W L V → (L' : Ledger) × Goes (delay e) (delay (other e)) e l L B y L' B × At e l W' L' B V
        go (ReceiverStands.not_yet k live s) = absurd (k o)
        go (ReceiverStands.left k live z) = absurd (k o)
        go (ReceiverStands.listens k live s) =
            let a = follows.reports V L B core.tied in
            let L' : Ledger = reported a.0 L in
            let first : Among a.1 L'.reports = subst (Among a.1) (sym a.3) (inl refl) in
            let slot : a.1.slot ≡ L.clock = let z = a.3 in let w : ◌≡◌ {A = Report} a.1 (record { low = a.0; flag = λ n. ltb a.0 n && (leb n (a.0 + 8) && L.rx.got n); slot = L.clock }) = cc in ap (λ v. v.slot) w in (
              L',
              Goes.report un a.0 a.2,
              record {
                clock = core.clock ∙ sym c;
                tied = a.5;
                sends = sending_same L' refl refl (ap (λ v. v.log_on) ee) (λ _. ap (λ v. v.sender) ee);
                hears = ReceiverStands.listens (ap (λ v. v.log_on) oo ∙ o) live (s ∙ ap (λ v. v.receiver) (sym oo));
                data' = data_same L' refl refl refl d;
                reports = λ v i R fs msg' t.
                    ⊎_elim
                    (λ z.
                    let e1 = ap (λ q. q.message) z in
                    let e2 = ap (λ q. q.slot) z in
                    let rr : (report V).0 ≡ R = ap (λ q. q.oldest) s ∙ (let q : (W.ends (other e)).receiver.oldest ≡ R = cc in q) in
                    let ff : (report V).1 ≡ fs = ap (λ q. q.flags) s ∙ (let q : (W.ends (other e)).receiver.flags ≡ fs = cc in q) in
                    (a.1, first, slot ∙ core.clock ∙ sym at ∙ sym e2, subst (λ q. Tells (q, fs) a.1) rr (subst (λ q. Tells ((report V).0, q) a.1) ff a.4)))
                    (λ i'. let z = core.reports v i' R fs msg' t in (z.0, inr z.1, z.2, z.3))
                    (r v i);
              },
            )

    -- e, holding l, is brought a report of l; the sending half's part is the premise `law`
    pub heard : (log : Log) → Logged (delay e) (delay (other e)) e l L B log → (y : Entry) (answer : Answer) (w : Wire) (R : ℕ) (fs : List Bool) → Among w (W.lane (other e)) → w.message ≡ Message.ReportFrame l R fs → W.clock ≤ w.slot + delay (other e)
        → (W.ends e).log_on ≡ l → y.event ≡ Event.Brought e (Frame.Report l) answer
        → (L.tx.live ≡ true → SentBy (W.ends e).sender L.clock L.tx B → Run (delay e) (delay (other e)) L → (r : Report) → Among r L.reports → L.clock ≤ r.slot + delay (other e) → Tells (R, fs) r
        → ((n : ℕ) × (answer ≡ Answer.Refused n) × (r.low < L.tx.oldest) × ((W'.ends e).sender ≡ (W.ends e).sender))
        ⊎ ((A : ℕ) × (st : ℕ → Status) × (ps : List (ℕ × ℕ)) × (answer ≡ Answer.Confirmed ps) × (L.tx.oldest ≤ r.low) × Oldest L (after L r) A × steps.Confirms L (after L r) st
        × ((q rn : ℕ) → Among (q, rn) ps → (i : ℕ) × (i < L.tx.total) × (L.tx.status i ≡ Status.Pending) × (st i ≡ Status.Confirmed) × (q_of L i ≡ q) × (rn_of L i ≡ rn))
        × SentBy (W'.ends e).sender L.clock (marked (after L r) A st L).tx B))
        → W'.clock ≡ W.clock → (W'.ends e).log_on ≡ (W.ends e).log_on → W'.ends (other e) ≡ W.ends (other e)
        → FewerData → FewerReports → (L' : Ledger) × Goes (delay e) (delay (other e)) e l L B y L' B × At e l W' L' B V
    heard log old y answer w R fs i msg t o ev law c o' ee d r = go core.sends
      where
        go : SenderStands S Fresh SentBy delay e l W L B → (L' : Ledger) × Goes (delay e) (delay (other e)) e l L B y L' B × At e l W' L' B V
        go (SenderStands.before k live s) = absurd (k o)
        go (SenderStands.gone k live z) = absurd (k o)
        go (SenderStands.holding k live s) =
            let cl = core.clock in
            let x = core.reports w i R fs msg (omega arith) in
            let sl = x.2 in
            let late : L.clock ≤ x.0.slot + delay (other e) = omega arith in
            ⊎_elim
            (λ a. (
              L,
              Goes.refuse x.0 x.1 late a.2 a.0 (ev ∙ ap (Event.Brought e (Frame.Report l)) a.1),
              record {
                clock = core.clock ∙ sym c;
                tied = core.tied;
                sends = sending_same L refl refl o' (λ _. a.3);
                hears = hearing_same L refl (ap (λ v. v.log_on) ee) (λ _. ap (λ v. v.receiver) ee);
                data' = data_same L refl refl refl d;
                reports = reports_same L refl refl r;
              },
            ))
            (λ a.
            let L' : Ledger = marked (after L x.0) a.0 a.1 L in (
              L',
              Goes.hear x.0 (record { live = live; underway = x.1; timely = late; current = a.4 }) a.0 a.5 a.1 a.6 a.2 (ev ∙ ap (Event.Brought e (Frame.Report l)) a.3) a.7,
              record {
                clock = core.clock ∙ sym c;
                tied = core.tied;
                sends = SenderStands.holding (o' ∙ o) live a.8;
                hears = hearing_same L' refl (ap (λ v. v.log_on) ee) (λ _. ap (λ v. v.receiver) ee);
                data' = λ v i n u m t. core.data' v (d v n u i m) n u m t;
                reports = reports_same L' refl refl r;
              },
            ))
            (law live s (keeps (delay e) (delay (other e)) (lanes delay small e) e l old).0 x.0 x.1 late x.3)

    -- a slot for all; the sending half's part are the premises `law`, for the half that e has, and `law_new`, for a new one
    pub ticks : (y : Entry) → Unrelated e l y → (c : ℕ) → W.clock ≤ c
        → (L.tx.live ≡ true → SentBy (W.ends e).sender L.clock L.tx B → (st : ℕ → Status) × Ages L c st × SentBy (W'.ends e).sender c (ticked c st L).tx B)
        → (L.tx.live ≡ true → ((s : S) → Fresh s → SentBy s L.clock L.tx B) → (st : ℕ → Status) × Ages L c st × ((s : S) → Fresh s → SentBy s c (ticked c st L).tx B))
        → W'.clock ≡ c → (W'.ends e).log_on ≡ (W.ends e).log_on → (W'.ends (other e)).log_on ≡ (W.ends (other e)).log_on → (W'.ends (other e)).receiver ≡ slot c (W.ends (other e)).receiver
        → FewerData → FewerReports → (L' : Ledger) × (V' : Receiving) × Goes (delay e) (delay (other e)) e l L B y L' B × At e l W' L' B V'
    ticks y un c later law law_new cc' o o' hh d r =
        let x = aged core.sends in
        let st = x.0 in
        let h = heard_on st core.hears in
        let L' : Ledger = ticked c st L in
        let cl = core.clock in (
          L',
          h.0,
          Goes.slot un c (omega arith) st x.1,
          record {
            clock = sym cc';
            tied = h.1;
            sends = x.2;
            hears = h.2;
            data' = λ w i n u m t. core.data' w (d w n u i m) n u m (omega arith);
            reports = λ w i R fs m t. core.reports w (r w R fs i m) R fs m (omega arith);
          },
        )
      where
        aged : SenderStands S Fresh SentBy delay e l W L B → (st : ℕ → Status) × Ages L c st × SenderStands S Fresh SentBy delay e l W' (ticked c st L) B
        aged (SenderStands.holding k live s) = let a = law live s in (a.0, a.1, SenderStands.holding (o ∙ k) live a.2)
        aged (SenderStands.before k live s) = let a = law_new live s in (a.0, a.1, SenderStands.before (λ z. k (sym o ∙ z)) live a.2)
        aged (SenderStands.gone k live n) = (
          L.tx.status,
          λ i m. (inl refl, λ alive. absurd (both_ways _ live alive)),
          SenderStands.gone (λ z. k (sym o ∙ z)) live (subst (λ v. l.number ≤ v.number) (sym o) n),
        )

        -- the places of a half that was left stay
        frozen : (st : ℕ → Status) → L.rx.live ≡ false → Tied V (ticked c st L) B
        frozen st live =
            let t = core.tied in
            record {
              low = t.low;
              lowest = t.lowest;
              oldest = t.oldest;
              eight = t.eight;
              flags = t.flags;
              sixteen = t.sixteen;
              places = λ p k.
                  subst (λ v. SamePlace L B (get_or V.places p empty) (record { since = (L.rx.place p).since; holds = λ b. cond (v && leb ((L.rx.place p).since + 75) c) ledger.Cell.Empty ((L.rx.place p).holds b) })) (sym live)
                  (t.places p k);
              bodies = t.bodies;
            }

        heard_on : (st : ℕ → Status) → ReceiverStands S Fresh SentBy delay (other e) l W L V → (V' : Receiving) × Tied V' (ticked c st L) B × ReceiverStands S Fresh SentBy delay (other e) l W' (ticked c st L) V'
        heard_on st (ReceiverStands.listens k live s) = (slot c V, follows.slots V L B core.tied live c st, ReceiverStands.listens (o' ∙ k) live (ap (slot c) s ∙ sym hh))
        heard_on st (ReceiverStands.not_yet k live s) = (new, follows.idles L B (subst (λ v. Tied v L B) s core.tied) live c st, ReceiverStands.not_yet (λ z. k (sym o' ∙ z)) live refl)
        heard_on st (ReceiverStands.left k live n) = (V, frozen st live, ReceiverStands.left (λ z. k (sym o' ∙ z)) live (subst (λ v. l.number ≤ v.number) (sym o') n))

    -- e logs on: it leaves l, or comes to it, or neither
    pub enters : (y : Entry) → Unrelated e l y → (l₂ : LogOn) → (W.ends e).log_on.number < l₂.number → (W'.ends e).log_on ≡ l₂ → Fresh (W'.ends e).sender
        → W'.clock ≡ W.clock → W'.ends (other e) ≡ W.ends (other e) → FewerData → FewerReports → (L' : Ledger) × Goes (delay e) (delay (other e)) e l L B y L' B × At e l W' L' B V
    enters y un l₂ more to new' c ee d r = go core.sends
      where
        stays : (L' : Ledger) → L'.clock ≡ L.clock → L'.rx ≡ L.rx → L'.frames ≡ L.frames → L'.reports ≡ L.reports → L'.tx.packet ≡ L.tx.packet → Tied V L' B → SenderStands S Fresh SentBy delay e l W' L' B → At e l W' L' B V
        stays L' cl x fr rs pk t s = record {
          clock = cl ∙ core.clock ∙ sym c;
          tied = t;
          sends = s;
          hears = hearing_same L' (ap (λ v. v.live) x) (ap (λ v. v.log_on) ee) (λ _. ap (λ v. v.receiver) ee);
          data' = λ w i n u m t.
              let z = core.data' w (d w n u i m) n u m (omega arith) in
              (z.0, subst (Among z.0) (sym fr) z.1, z.2, z.3, z.4 ∙ ap (λ v. carried_of (v z.0.packet) (B z.0.packet) z.0) (sym pk));
          reports = reports_same L' cl rs r;
        }

        go : SenderStands S Fresh SentBy delay e l W L B → (L' : Ledger) × Goes (delay e) (delay (other e)) e l L B y L' B × At e l W' L' B V
        go (SenderStands.holding k live s) = (
          sender_left L,
          Goes.leave_sender un,
          stays (sender_left L) refl refl refl refl refl core.tied (SenderStands.gone (λ z. let w = ap (λ v. v.number) k in let v = ap (λ v. v.number) (sym to ∙ z) in omega arith) refl (let w = ap (λ v. v.number) k in let v = ap (λ v. v.number) to in omega arith)),
        )
        go (SenderStands.before k live s) = (
          L,
          Goes.apart un,
          stays L refl refl refl refl refl core.tied
              (⊎_elim (λ z. SenderStands.holding (to ∙ z) live (s (W'.ends e).sender new')) (λ z. SenderStands.before (λ w. z (sym to ∙ w)) live s) (same_log_on l₂ l)),
        )
        go (SenderStands.gone k live n) = (
          L,
          Goes.apart un,
          stays L refl refl refl refl refl core.tied (SenderStands.gone (λ z. let v = ap (λ v. v.number) (sym to ∙ z) in omega arith) live (let v = ap (λ v. v.number) to in omega arith)),
        )

    -- the other end logs on
    pub other_enters : (y : Entry) → Unrelated e l y → (l₂ : LogOn) → (W.ends (other e)).log_on.number < l₂.number → (W'.ends (other e)).log_on ≡ l₂ → (W'.ends (other e)).receiver ≡ new
        → W'.clock ≡ W.clock → W'.ends e ≡ W.ends e → FewerData → FewerReports → (L' : Ledger) × Goes (delay e) (delay (other e)) e l L B y L' B × At e l W' L' B V
    other_enters y un l₂ more to new' c ee d r = go core.hears
      where
        stays : (L' : Ledger) → L'.clock ≡ L.clock → L'.tx ≡ L.tx → L'.frames ≡ L.frames → L'.reports ≡ L.reports → Tied V L' B → ReceiverStands S Fresh SentBy delay (other e) l W' L' V → At e l W' L' B V
        stays L' cl x fr rs t h = record {
          clock = cl ∙ core.clock ∙ sym c;
          tied = t;
          sends = sending_same L' cl x (ap (λ v. v.log_on) ee) (λ _. ap (λ v. v.sender) ee);
          hears = h;
          data' = data_same L' cl x fr d;
          reports = reports_same L' cl rs r;
        }

        go : ReceiverStands S Fresh SentBy delay (other e) l W L V → (L' : Ledger) × Goes (delay e) (delay (other e)) e l L B y L' B × At e l W' L' B V
        go (ReceiverStands.listens k live s) = (
          receiver_left L,
          Goes.leave_receiver un,
          stays (receiver_left L) refl refl refl refl core.tied (ReceiverStands.left (λ z. let w = ap (λ v. v.number) k in let v = ap (λ v. v.number) (sym to ∙ z) in omega arith) refl (let w = ap (λ v. v.number) k in let v = ap (λ v. v.number) to in omega arith)),
        )
        go (ReceiverStands.not_yet k live s) = (
          L,
          Goes.apart un,
          stays L refl refl refl refl core.tied (⊎_elim (λ z. ReceiverStands.listens (to ∙ z) live (s ∙ sym new')) (λ z. ReceiverStands.not_yet (λ w. z (sym to ∙ w)) live s) (same_log_on l₂ l)),
        )
        go (ReceiverStands.left k live n) = (
          L,
          Goes.apart un,
          stays L refl refl refl refl core.tied (ReceiverStands.left (λ z. let v = ap (λ v. v.number) (sym to ∙ z) in omega arith) live (let v = ap (λ v. v.number) to in omega arith)),
        )
