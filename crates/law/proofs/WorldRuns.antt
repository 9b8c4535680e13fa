-- Every log of every run is right, if the sending half is tied to the ledger.
use Rattle.std.proofs.Common.{◌≡◌, ℕ, ◌+◌, ◌≤◌, Bool, List, [], ◌∷◌, sym, refl, ap, ◌∙◌, subst, ⊎_elim, arith}
use Rattle.rules.specs.Members.{Among}
use Rattle.law.specs.Ledger.{Ledger}
use Rattle.law.specs.Steps as steps
use Rattle.law.proofs.Base.{never}
use Rattle.rules.specs.Receiving.{Bdu, Receiving, new}
use Rattle.rules.specs.Receiving as half
use Rattle.law.proofs.ReceivingFollows.{follows}
use Rattle.law.specs.Log.{End, other, LogOn, Frame, Answer, Event, Entry, Holds, Log}
use Rattle.law.specs.Logged.{Unrelated, Goes, Logged}
use Rattle.law.specs.Kept.{told}
use Rattle.law.proofs.Rights.{not_itself}
use Rattle.law.proofs.Keeping.{keeps, keep_laws, lanes}
use Rattle.law.proofs.Concerns.{same_end, same_log_on, of_none}
use Rattle.law.specs.World.{Message, Wire, World, SenderStands, ReceiverStands, Core, Shows}
use Rattle.law.specs.WorldSteps.{Rules, SendingTie, LogsOn, Accepts, Sends, Reports, TakesData, TakesReport, Ticks, Nothing, Step, Reached, LinkLaw}
use Rattle.law.proofs.Worlds.{joins, apart, brought, accepts, sent, reports, heard, ticks, enters, other_enters}

twice : (e : End) → other (other e) ≡ e
twice End.Ground = refl
twice End.Air = refl

flip : (e x : End) → e ≡ other x → x ≡ other e
flip e x s = sym (twice x) ∙ ap other (sym s)

told_confirms : (a : half.Answer) (ps : List (ℕ × ℕ)) → told a ≡ Answer.Confirmed ps → ⊥
told_confirms half.Answer.Held ps z = never (cc)
told_confirms (half.Answer.Packet q rn xs) ps z = never (cc)
told_confirms (half.Answer.Refused n) ps z = never (cc)

module _ (S : Type 0) (rules : Rules S) (delay : End → ℕ) (small : delay End.Ground + delay End.Air ≤ 1) (tie : SendingTie S rules delay) where
  abbrev At : End → LogOn → World S → Ledger → (ℕ → List ℕ) → Receiving → Type 0
  At = Core S rules.Fresh tie.SentBy delay

  abbrev Side : End → LogOn → World S → Log → Type 0
  Side e l W log = (L : Ledger) × (B : ℕ → List ℕ) × (V : Receiving) × Logged (delay e) (delay (other e)) e l L B log × At e l W L B V

  module _ (e : End) (l : LogOn) (W W' : World S) (y : Entry) (log : Log) (sh : Shows S rules.oldest rules.acknowledged W' y)
      (L : Ledger) (B : ℕ → List ℕ) (V : Receiving) (old : Logged (delay e) (delay (other e)) e l L B log) (core : At e l W L B V) where
    run : steps.Run (delay e) (delay (other e)) L
    run = (keeps (delay e) (delay (other e)) (lanes delay small e) e l old).0

    -- a step of the ledger
    on : (L' : Ledger) (B' : ℕ → List ℕ) (V' : Receiving) → Goes (delay e) (delay (other e)) e l L B y L' B' → At e l W' L' B' V' → Side e l W' (y ∷ log)
    on L' B' V' g c = (L', B', V', joins S rules.Fresh tie.SentBy delay small rules.oldest rules.acknowledged tie.shows e l W' L L' B B' V' log y c sh old g, c)

    -- no step of it
    off : Unrelated e l y → W'.clock ≡ W.clock → (W'.ends e).log_on ≡ (W.ends e).log_on → ((W.ends e).log_on ≡ l → (W'.ends e).sender ≡ (W.ends e).sender)
        → (W'.ends (other e)).log_on ≡ (W.ends (other e)).log_on → ((W.ends (other e)).log_on ≡ l → (W'.ends (other e)).receiver ≡ (W.ends (other e)).receiver)
        → ((w : Wire) (n : ℕ) (u : Bdu) → Among w (W'.lane e) → w.message ≡ Message.DataFrame l n u → Among w (W.lane e))
        → ((w : Wire) (R : ℕ) (fs : List Bool) → Among w (W'.lane (other e)) → w.message ≡ Message.ReportFrame l R fs → Among w (W.lane (other e))) → Side e l W' (y ∷ log)
    off u c o s o' h d r =
        let x = apart S rules.Fresh tie.SentBy delay small rules.oldest rules.acknowledged tie.shows e l W W' L B V core y u c o s o' h d r in
        on L B V x.0 x.1

    -- the entry shows the log-on that the end x held before it, too
    held : (x : End) → (W'.ends x).log_on ≡ (W.ends x).log_on → Holds x l y → (W.ends x).log_on ≡ l
    held x o h = sym o ∙ sym (sh.log_on x) ∙ h

    holds : (x : End) → (W'.ends x).log_on ≡ (W.ends x).log_on → (W.ends x).log_on ≡ l → Holds x l y
    holds x o h = sh.log_on x ∙ o ∙ h

    quiet : ((f : End) (q rn : ℕ) (xs : List ℕ) → y.event ≡ Event.Accepted f q rn xs → ⊥) → ((f : End) (x : Frame) (a : Answer) → y.event ≡ Event.Brought f x a → ⊥) → Unrelated e l y
    quiet = of_none y e l

    log_on_own : LogsOn S rules delay W W' y e → Side e l W' (y ∷ log)
    log_on_own a =
        let z = a.event in
        let x = enters S rules.Fresh tie.SentBy delay small rules.oldest rules.acknowledged tie.shows e l W W' L B V core y (quiet (λ f q rn xs w. never (cc)) (λ f x a w. never (cc)))
        a.to a.greater a.now a.sender a.clock a.same (λ w n u i m. a.lanes e w i) (λ w R fs i m. a.lanes (other e) w i) in
        on x.0 B V x.1 x.2

    log_on_other : LogsOn S rules delay W W' y (other e) → Side e l W' (y ∷ log)
    log_on_other a =
        let z = a.event in
        let same = subst (λ v. W'.ends v ≡ W.ends v) (twice e) a.same in
        let x = other_enters S rules.Fresh tie.SentBy delay small rules.oldest rules.acknowledged tie.shows e l W W' L B V core y (quiet (λ f q rn xs w. never (cc)) (λ f x a w. never (cc)))
        a.to a.greater a.now a.receiver a.clock same (λ w n u i m. a.lanes e w i) (λ w R fs i m. a.lanes (other e) w i) in
        on x.0 B V x.1 x.2

    accept_own : Accepts S rules delay W W' y e → Side e l W' (y ∷ log)
    accept_own a =
        let z = a.event in
        ⊎_elim
        (λ o.
        let x = accepts S rules.Fresh tie.SentBy delay small rules.oldest rules.acknowledged tie.shows e l W W' L B V core log old y a.q a.rn a.octets z (holds e a.log_on o) o
        (λ live s. tie.accepts e (W.ends e).sender (W'.ends e).sender a.q a.rn a.octets L B (subst (λ c. rules.Accepts (W.ends e).sender c a.q a.rn a.octets (W'.ends e).sender) (sym core.clock) a.rule) live s run)
        a.clock a.log_on a.same (λ w n u i m. a.lanes e w i) (λ w R fs i m. a.lanes (other e) w i) in
        on x.0 x.1 V x.2 x.3)
        (λ o.
        off
        (record {
          accepts = λ q rn xs h. o (held e a.log_on h.1);
          hands_up = λ q rn xs h. never (let w = h.0.1 in cc);
          confirms = λ q rn h. never (let w = h.0.2 in cc);
          hears = λ answer h. never (let w = h.0 in cc);
        })
        a.clock a.log_on (λ k. absurd (o k)) (ap (λ v. v.log_on) a.same) (λ _. ap (λ v. v.receiver) a.same) (λ w n u i m. a.lanes e w i) (λ w R fs i m. a.lanes (other e) w i))
        (same_log_on (W.ends e).log_on l)

    accept_other : Accepts S rules delay W W' y (other e) → Side e l W' (y ∷ log)
    accept_other a =
        let z = a.event in
        let same = subst (λ v. W'.ends v ≡ W.ends v) (twice e) a.same in
        off
        (record {
          accepts = λ q rn xs h. not_itself e (let w = h.0 in cc);
          hands_up = λ q rn xs h. never (let w = h.0.1 in cc);
          confirms = λ q rn h. never (let w = h.0.2 in cc);
          hears = λ answer h. never (let w = h.0 in cc);
        })
        a.clock (ap (λ v. v.log_on) same) (λ _. ap (λ v. v.sender) same) a.log_on (λ _. a.receiver) (λ w n u i m. a.lanes e w i) (λ w R fs i m. a.lanes (other e) w i)

    send_own : Sends S rules delay W W' y e → Side e l W' (y ∷ log)
    send_own a =
        let z = a.event in
        let none = quiet (λ f q rn xs w. never (cc)) (λ f x a w. never (cc)) in
        ⊎_elim
        (λ o.
        let wire : Wire = record { message = Message.DataFrame (W.ends e).log_on a.number a.bdu; slot = W.clock } in
        let x = sent S rules.Fresh tie.SentBy delay small rules.oldest rules.acknowledged tie.shows e l W W' L B V core y wire a.number a.bdu ((a.octets, z), holds e a.log_on o) o
        (ap (λ v. Message.DataFrame v a.number a.bdu) o) refl
        (λ live s. tie.sends e (W.ends e).sender (W'.ends e).sender a.number a.bdu L B (subst (λ c. rules.Sends (W.ends e).sender c a.number a.bdu (W'.ends e).sender) (sym core.clock) a.rule) live s run)
        a.clock a.log_on a.same a.own (λ w R fs i m. a.others w i) in
        on x.0 B V x.1 x.2)
        (λ o.
        off none a.clock a.log_on (λ k. absurd (o k)) (ap (λ v. v.log_on) a.same) (λ _. ap (λ v. v.receiver) a.same)
        (λ w n u i m. ⊎_elim (λ s. absurd (o (let k = ap (λ v. v.message) s in cc))) (λ i. i) (a.own w i)) (λ w R fs i m. a.others w i))
        (same_log_on (W.ends e).log_on l)

    send_other : Sends S rules delay W W' y (other e) → Side e l W' (y ∷ log)
    send_other a =
        let z = a.event in
        let same = subst (λ v. W'.ends v ≡ W.ends v) (twice e) a.same in
        let lane : (w : Wire) → Among w (W'.lane e) → Among w (W.lane e) = subst (λ v. (w : Wire) → Among w (W'.lane v) → Among w (W.lane v)) (twice e) a.others in
        off (quiet (λ f q rn xs w. never (cc)) (λ f x a w. never (cc))) a.clock (ap (λ v. v.log_on) same) (λ _. ap (λ v. v.sender) same) a.log_on (λ _. a.receiver)
        (λ w n u i m. lane w i) (λ w R fs i m. ⊎_elim (λ s. never (let k = ap (λ v. v.message) s in cc)) (λ i. i) (a.own w i))

    report_own : Reports S rules delay W W' y e → Side e l W' (y ∷ log)
    report_own a =
        let z = a.event in
        off (quiet (λ f q rn xs w. never (cc)) (λ f x a w. never (cc))) a.clock (ap (λ v. v.log_on) (a.same e)) (λ _. ap (λ v. v.sender) (a.same e)) (ap (λ v. v.log_on) (a.same (other e))) (λ _. ap (λ v. v.receiver) (a.same (other e)))
        (λ w n u i m. ⊎_elim (λ s. never (let k = ap (λ v. v.message) s in cc)) (λ i. i) (a.own w i)) (λ w R fs i m. a.others w i)

    report_other : Reports S rules delay W W' y (other e) → Side e l W' (y ∷ log)
    report_other a =
        let z = a.event in
        let none = quiet (λ f q rn xs w. never (cc)) (λ f x a w. never (cc)) in
        let lane : (w : Wire) → Among w (W'.lane e) → Among w (W.lane e) = subst (λ v. (w : Wire) → Among w (W'.lane v) → Among w (W.lane v)) (twice e) a.others in
        ⊎_elim
        (λ o.
        let wire : Wire = record { message = Message.ReportFrame (W.ends (other e)).log_on (W.ends (other e)).receiver.oldest (W.ends (other e)).receiver.flags; slot = W.clock } in
        let x = reports S rules.Fresh tie.SentBy delay small rules.oldest rules.acknowledged tie.shows e l W W' L B V core y wire none o
        (ap (λ v. Message.ReportFrame v (W.ends (other e)).receiver.oldest (W.ends (other e)).receiver.flags) o) refl a.clock (a.same e) (a.same (other e)) (λ w n u i m. lane w i) a.own in
        on x.0 B V x.1 x.2)
        (λ o.
        off none a.clock (ap (λ v. v.log_on) (a.same e)) (λ _. ap (λ v. v.sender) (a.same e)) (ap (λ v. v.log_on) (a.same (other e))) (λ _. ap (λ v. v.receiver) (a.same (other e)))
        (λ w n u i m. lane w i) (λ w R fs i m. ⊎_elim (λ s. absurd (o (let k = ap (λ v. v.message) s in cc))) (λ i. i) (a.own w i)))
        (same_log_on (W.ends (other e)).log_on l)

    data_own : TakesData S rules delay W W' y e → Side e l W' (y ∷ log)
    data_own a =
        let z = a.event in
        off
        (record {
          accepts = λ q rn xs h. never (let w = h.0 in cc);
          hands_up = λ q rn xs h. not_itself e (let w = h.0.1 in cc);
          confirms = λ q rn h. told_confirms (half.bring (W.ends e).receiver a.number a.bdu W.clock).0 h.0.1 (let w = h.0.2 in cc);
          hears = λ answer h. never (let w = h.0 in cc);
        })
        a.clock a.log_on (λ _. a.sender) (ap (λ v. v.log_on) a.same) (λ _. ap (λ v. v.receiver) a.same) (λ w n u i m. a.lanes e w i) (λ w R fs i m. a.lanes (other e) w i)

    data_other : TakesData S rules delay W W' y (other e) → Side e l W' (y ∷ log)
    data_other a =
        let z = a.event in
        let same = subst (λ v. W'.ends v ≡ W.ends v) (twice e) a.same in
        ⊎_elim
        (λ o.
        let x = brought S rules.Fresh tie.SentBy delay small rules.oldest rules.acknowledged tie.shows e l W W' L B V core log old y a.wire a.number a.bdu
        (subst (λ v. Among a.wire (W.lane v)) (twice e) a.underway) (a.message ∙ ap (λ v. Message.DataFrame v a.number a.bdu) o) (subst (λ v. W.clock ≤ a.wire.slot + delay v) (twice e) a.timely) o
        (z ∙ ap (λ v. Event.Brought (other e) (Frame.Data v) (told (half.bring (W.ends (other e)).receiver a.number a.bdu W.clock).0)) o) (holds (other e) a.log_on o)
        a.clock same a.log_on a.receiver (λ w n u i m. a.lanes e w i) (λ w R fs i m. a.lanes (other e) w i) in
        on x.0 B x.1 x.2 x.3)
        (λ o.
        off
        (record {
          accepts = λ q rn xs h. never (let w = h.0 in cc);
          hands_up = λ q rn xs h. o (held (other e) a.log_on h.1);
          confirms = λ q rn h. not_itself e (let w = h.0.2 in cc);
          hears = λ answer h. not_itself e (let w = h.0 in cc);
        })
        a.clock (ap (λ v. v.log_on) same) (λ _. ap (λ v. v.sender) same) a.log_on (λ k. absurd (o k)) (λ w n u i m. a.lanes e w i) (λ w R fs i m. a.lanes (other e) w i))
        (same_log_on (W.ends (other e)).log_on l)

    heard_own : TakesReport S rules delay W W' y e → Side e l W' (y ∷ log)
    heard_own a =
        let z = a.event in
        ⊎_elim
        (λ o.
        let x = heard S rules.Fresh tie.SentBy delay small rules.oldest rules.acknowledged tie.shows e l W W' L B V core log old y a.answer a.wire a.number a.flags
        a.underway (a.message ∙ ap (λ v. Message.ReportFrame v a.number a.flags) o) a.timely o (z ∙ ap (λ v. Event.Brought e (Frame.Report v) a.answer) o)
        (λ live s. tie.hears e (W.ends e).sender (W'.ends e).sender a.number a.flags a.answer L B (subst (λ c. rules.Hears (W.ends e).sender c a.number a.flags a.answer (W'.ends e).sender) (sym core.clock) a.rule) live s)
        a.clock a.log_on a.same (λ w n u i m. a.lanes e w i) (λ w R fs i m. a.lanes (other e) w i) in
        on x.0 B V x.1 x.2)
        (λ o.
        off
        (record {
          accepts = λ q rn xs h. never (let w = h.0 in cc);
          hands_up = λ q rn xs h. not_itself e (let w = h.0.1 in cc);
          confirms = λ q rn h. o (held e a.log_on h.1);
          hears = λ answer h. o (held e a.log_on h.1);
        })
        a.clock a.log_on (λ k. absurd (o k)) (ap (λ v. v.log_on) a.same) (λ _. ap (λ v. v.receiver) a.same) (λ w n u i m. a.lanes e w i) (λ w R fs i m. a.lanes (other e) w i))
        (same_log_on (W.ends e).log_on l)

    heard_other : TakesReport S rules delay W W' y (other e) → Side e l W' (y ∷ log)
    heard_other a =
        let z = a.event in
        let same = subst (λ v. W'.ends v ≡ W.ends v) (twice e) a.same in
        off
        (record {
          accepts = λ q rn xs h. never (let w = h.0 in cc);
          hands_up = λ q rn xs h. ⊎_elim (λ k. never (let w = h.0.1 in let v = k.1 in cc)) (λ k. never (let w = h.0.1 in let v = k.1 in cc)) a.kind;
          confirms = λ q rn h. not_itself e (let w = h.0.2 in cc);
          hears = λ answer h. not_itself e (let w = h.0 in cc);
        })
        a.clock (ap (λ v. v.log_on) same) (λ _. ap (λ v. v.sender) same) a.log_on (λ _. a.receiver) (λ w n u i m. a.lanes e w i) (λ w R fs i m. a.lanes (other e) w i)

    ticked : Ticks S rules delay W W' y → Side e l W' (y ∷ log)
    ticked a =
        let z = a.event in
        let c = core.clock in
        let later = a.later in
        let before : L.clock ≤ W'.clock = omega arith in
        let x = ticks S rules.Fresh tie.SentBy delay small rules.oldest rules.acknowledged tie.shows e l W W' L B V core y (quiet (λ f q rn xs w. never (cc)) (λ f x a w. never (cc))) W'.clock later
        (λ live s. tie.ticks e (W.ends e).sender (W'.ends e).sender W'.clock L B before (subst (λ v. rules.Ticks (W.ends e).sender v W'.clock (W'.ends e).sender) (sym c) (a.sender e)) live s run) (tie.fresh_ticks e W'.clock L B before run)
        refl (a.log_on e) (a.log_on (other e)) (a.receiver (other e)) (λ w n u i m. a.lanes e w i) (λ w R fs i m. a.lanes (other e) w i) in
        on x.0 B x.1 x.2 x.3

    none : Nothing S rules delay W W' y → Side e l W' (y ∷ log)
    none a =
        off
        (⊎_elim (λ z. quiet (λ f q rn xs w. never (cc)) (λ f x a w. never (cc)))
        (λ k.
        let z = k.3 in
        record {
          accepts = λ q rn xs h. never (let w = h.0 in cc);
          hands_up = λ q rn xs h. never (let w = h.0.1 in cc);
          confirms = λ q rn h. never (let w = h.0.2 in cc);
          hears = λ answer h.
              let w = h.0 in
              let ee : e ≡ k.0 = cc in
              let ff : k.1 ≡ Frame.Report l = cc in
              k.4 (ff ∙ ap Frame.Report (sym (held e (ap (λ v. v.log_on) (a.same e)) h.1) ∙ ap (λ v. (W.ends v).log_on) ee));
        })
        a.event)
        a.clock (ap (λ v. v.log_on) (a.same e)) (λ _. ap (λ v. v.sender) (a.same e)) (ap (λ v. v.log_on) (a.same (other e))) (λ _. ap (λ v. v.receiver) (a.same (other e))) (λ w n u i m. a.lanes e w i) (λ w R fs i m. a.lanes (other e) w i)

    -- an event at the end x: at e, or at the other end
    at_either : (P : End → Type 0) (x : End) → (P e → Side e l W' (y ∷ log)) → (P (other e) → Side e l W' (y ∷ log)) → P x → Side e l W' (y ∷ log)
    at_either P x own its p = ⊎_elim (λ s. own (subst P (sym s) p)) (λ s. its (subst P (flip e x s) p)) (same_end e x)

    goes_on : Step S rules delay W W' y → Side e l W' (y ∷ log)
    goes_on (Step.log_on x a) = at_either (LogsOn S rules delay W W' y) x log_on_own log_on_other a
    goes_on (Step.accept x a) = at_either (Accepts S rules delay W W' y) x accept_own accept_other a
    goes_on (Step.send x a) = at_either (Sends S rules delay W W' y) x send_own send_other a
    goes_on (Step.report x a) = at_either (Reports S rules delay W W' y) x report_own report_other a
    goes_on (Step.take_data x a) = at_either (TakesData S rules delay W W' y) x data_own data_other a
    goes_on (Step.take_report x a) = at_either (TakesReport S rules delay W W' y) x heard_own heard_other a
    goes_on (Step.tick a) = ticked a
    goes_on (Step.none a) = none a

  -- every direction and log-on has its ledger
  sides : {W : World S} {log : Log} → Reached S rules delay W log → (e : End) (l : LogOn) → Side e l W log
  sides (Reached.begun W c ends lane) e l =
      let B : ℕ → List ℕ = λ i. [] in
      let L : Ledger = steps.fresh 0 in (
        L,
        B,
        new,
        Logged.start 0 B,
        record {
          clock = sym c;
          tied = follows.starts 0 B;
          sends = ⊎_elim (λ z. SenderStands.holding z refl (tie.starts 0 B (W.ends e).sender (ends e).1)) (λ z. SenderStands.before z refl (tie.starts 0 B)) (same_log_on (W.ends e).log_on l);
          hears = ⊎_elim (λ z. ReceiverStands.listens z refl (sym (ends (other e)).2)) (λ z. ReceiverStands.not_yet z refl refl) (same_log_on (W.ends (other e)).log_on l);
          data' = λ w i. absurd (subst (Among w) (lane e) i);
          reports = λ w i. absurd (subst (Among w) (lane (other e)) i);
        },
      )
  sides (Reached.went {W} {log} r W' y step sh) e l = let s = sides r e l in goes_on e l W W' y log sh s.0 s.1 s.2 s.3 s.4 step

pub link_law : LinkLaw
link_law S rules delay small tie W log r = keep_laws delay small log (λ e l. let s = sides S rules delay small tie r e l in (s.0, s.1, s.3))
