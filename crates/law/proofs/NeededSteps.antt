-- Runs in which the ground sends packets and the air reports, one step after the other, whatever the rules of reports and slots are; and two ways in which a log is wrong.
use Rattle.std.proofs.Common.{◌≡◌, ℕ, ◌+◌, ◌-◌, ◌*◌, ◌<◌, ◌≤◌, Bool, true, false, cond, not, ◌&&◌, eqb, ltb, leb, List, [], ◌∷◌, ◌++◌, length, replicate, Some, sym, refl, ap, ◌∙◌, subst, inl, ⊎_elim, arith}
use Rattle.std.proofs.lemmas.Bool.{both_ways, ltb-true, and_parts, or_cases, eq-eqb}
use Rattle.rules.specs.declared.window.BduKey.{BduKey}
use Rattle.rules.specs.Constants.{packet_room, a_slot, window_size}
use Rattle.rules.specs.Receiving.{Bdu, Receiving, bring, slot}
use Rattle.rules.specs.Receiving as receiving
use Rattle.rules.specs.Sending.{Sending, new, place, packet, pieces, piece, passed, turn, opening, accepted, sent, gap, Refused, was_sent, mark, Next}
use Rattle.frame.specs.Numbers.{advanced}
use Rattle.rules.specs.Choice.{chosen, Chosen}
use Rattle.rules.proofs.Choice.{finds_next}
use Rattle.rules.specs.Members.{Among}
use Rattle.law.specs.Log.{End, LogOn, Frame, Answer, Event, Shown, Entry, Log}
use Rattle.law.specs.Laws.{Accepts, HandsUp, Confirms, LastAccept, Laws}
use Rattle.law.specs.Samples.{on, off, entry}
use Rattle.law.specs.Kept as kept
use Rattle.law.specs.World.{Message, Wire, EndState, World, Shows}
use Rattle.law.specs.WorldSteps.{Step, Reached}
use Rattle.law.specs.LinkRuns.{Sender, flag, rules}
use Rattle.law.specs.Needed.{but}
use Rattle.law.proofs.Sides.{both}
use Rattle.law.proofs.Splits.{splits_order}
use Rattle.rules.proofs.Lists.{get_or_same}

-- ## the states of such a run

-- one for the ground, and one for the air
abbrev pub two : {A : Type 0} → A → A → End → A
two g a End.Ground = g
two g a End.Air = a

abbrev pub ended : LogOn → Sending → ℕ → Receiving → EndState Sender
ended l S n V = record { log_on = l; sender = record { half = S; count = n }; receiver = V }

abbrev pub world : ℕ → EndState Sender → EndState Sender → List Wire → List Wire → World Sender
world c g a up down = record { clock = c; ends = two g a; lane = two up down }

abbrev pub show : EndState Sender → Shown
show x = record { log_on = x.log_on; oldest = rules.oldest x.sender; acknowledged = rules.acknowledged x.sender; awaits = x.receiver.oldest; flags = x.receiver.flags }

-- the ground's sending half with its count, the air's receiving half, and the lanes, of the ground and of the air
pub record State : Type 0 where
  pub clock : ℕ
  pub half : Sending
  pub count : ℕ
  pub receiver : Receiving
  pub up : List Wire
  pub down : List Wire
  pub log : Log

abbrev pub sender : State → Sender
sender s = record { half = s.half; count = s.count }

abbrev pub worldly : State → World Sender
worldly s = world s.clock (ended on s.half s.count receiving.new) (ended on new 0 s.receiver) s.up s.down

-- the log has this event more
abbrev pub made : ℕ → Sending → ℕ → Receiving → List Wire → List Wire → Event → Log → State
made c S n V up down event log = record {
  clock = c;
  half = S;
  count = n;
  receiver = V;
  up = up;
  down = down;
  log = entry c event (show (ended on S n receiving.new)) (show (ended on new 0 V)) ∷ log;
}

-- the rules of reports and of slots, and the delays
pub record Way : Type 1 where
  pub hears : Sender → ℕ → ℕ → List Bool → Answer → Sender → Type 0
  pub ticks : Sender → ℕ → ℕ → Sender → Type 0
  pub delay : End → ℕ

abbrev pub At : Way → World Sender → Log → Type 0
At w = Reached Sender (but w.hears w.ticks) w.delay

abbrev pub Is : Way → State → Type 0
Is w s = At w (worldly s) s.log

shows : (c : ℕ) (event : Event) (g a : EndState Sender) (up down : List Wire) → Shows Sender rules.oldest rules.acknowledged (world c g a up down) (entry c event (show g) (show a))
shows c event g a up down =
    let W : World Sender = world c g a up down in
    let y : Entry = entry c event (show g) (show a) in
    record {
      slot = refl;
      log_on = both _ refl refl;
      oldest = both _ refl refl;
      acknowledged = both _ refl refl;
      awaits = both _ refl refl;
      flags = both _ refl refl;
    }

-- one step more, where the entry shows what the ends are
on_with : (w : Way) (W : World Sender) (log : Log) (c : ℕ) (event : Event) (g a : EndState Sender) (up down : List Wire) → At w W log
    → Step Sender (but w.hears w.ticks) w.delay W (world c g a up down) (entry c event (show g) (show a))
    → At w (world c g a up down) (entry c event (show g) (show a) ∷ log)
on_with w W log c event g a up down r step = Reached.went r (world c g a up down) (entry c event (show g) (show a)) step (shows c event g a up down)

-- ## the steps

abbrev off_end : EndState Sender
off_end = ended off new 0 receiving.new

abbrev on_end : EndState Sender
on_end = ended on new 0 receiving.new

-- both have logged on
abbrev pub ready : State
ready = made 0 new 0 receiving.new [] [] (Event.LoggedOn End.Air) (entry 0 (Event.LoggedOn End.Ground) (show on_end) (show off_end) ∷ [])

pub begins : (w : Way) → Is w ready
begins w =
    on_with w (world 0 on_end off_end [] []) _ 0 (Event.LoggedOn End.Air) on_end on_end [] []
    (on_with w (world 0 off_end off_end [] []) [] 0 (Event.LoggedOn End.Ground) on_end off_end [] []
    (Reached.begun (world 0 off_end off_end [] []) refl (both _ (refl, refl, refl) (refl, refl, refl)) (both _ refl refl))
    (Step.log_on End.Ground (record { to = on; event = refl; greater = omega arith; now = refl; sender = refl; receiver = refl; same = refl; clock = refl; lanes = λ e w i. i })))
    (Step.log_on End.Air (record { to = on; event = refl; greater = omega arith; now = refl; sender = refl; receiver = refl; same = refl; clock = refl; lanes = λ e w i. i }))

-- the ground accepts a packet
abbrev pub accept : ℕ → ℕ → List ℕ → State → State
accept q rn octets s = made s.clock (accepted q rn octets s.clock s.half) s.count s.receiver s.up s.down (Event.Accepted End.Ground q rn octets) s.log

pub accepts : (w : Way) (s : State) (q rn : ℕ) (octets : List ℕ) → Is w s → q < 4 → 1 ≤ length octets → length octets ≤ packet_room → passed s.half q < 4 → rn ≡ turn s.half q (passed s.half q)
    → Is w (accept q rn octets s)
accepts w s q rn octets r priority some most free turns =
    on_with w (worldly s) s.log _ _ _ _ _ _ r
    (Step.accept End.Ground (record {
      q = q;
      rn = rn;
      octets = octets;
      event = refl;
      rule = record { priority = priority; some = some; most = most; free = free; turn = turns; half = refl; count = refl };
      log_on = refl;
      receiver = refl;
      same = refl;
      clock = refl;
      lanes = λ e w i. i;
    }))

-- the ground sends the BDU b
abbrev pub number : State → ℕ
number s = advanced s.half.oldest (opening s.half)

abbrev pub bdu : BduKey → State → Bdu
bdu b s = record {
  q = b.q;
  rn = b.rn;
  more = ltb (b.bsn + 1) (pieces (packet s.half (place b)).octets);
  bsn = b.bsn;
  octets = piece (packet s.half (place b)).octets b.bsn;
}

-- a data frame of this log-on, and a report with no flags
abbrev data_octets : ℕ → Bdu → List ℕ
data_octets n u = 1 ∷ 5 ∷ 0 ∷ 0 ∷ 0 ∷ 1 ∷ n ∷ (64 * u.rn + 16 * u.q + cond u.more 8 0 + u.bsn) ∷ u.octets

abbrev report_octets : ℕ → List ℕ
report_octets R = 3 ∷ 5 ∷ 0 ∷ 0 ∷ 0 ∷ 1 ∷ R ∷ 0 ∷ []

abbrev pub carrying : ℕ → Bdu → ℕ → Wire
carrying n u c = record { message = Message.DataFrame on n u; slot = c }

abbrev pub send : BduKey → State → State
send b s =
    made s.clock (sent b (opening s.half) s.clock s.half) (s.count + 1) s.receiver (carrying (number s) (bdu b s) s.clock ∷ s.up) s.down (Event.Sent End.Ground (data_octets (number s) (bdu b s)))
    s.log

next : (S : Sending) (b : BduKey) → chosen S.packets 128 ≡ Some b → (t : ℕ) × Next S b t
next S b e = subst (Chosen S) e (finds_next S)

pub sends : (w : Way) (s : State) (b : BduKey) → Is w s → chosen s.half.packets 128 ≡ Some b → s.count < a_slot → opening s.half < window_size → Is w (send b s)
sends w s b r e few opens =
    on_with w (worldly s) s.log _ _ _ _ _ _ r
    (Step.send End.Ground (record {
      octets = _;
      event = refl;
      number = number s;
      bdu = bdu b s;
      rule = record { half = (next s.half b e, few, opens, refl, refl, refl, refl); count = refl };
      log_on = refl;
      receiver = refl;
      same = refl;
      clock = refl;
      own = λ w i. i;
      others = λ w i. i;
    }))

-- the air is brought a data frame
abbrev pub take : ℕ → Bdu → State → State
take n u s =
    made s.clock s.half s.count (bring s.receiver n u s.clock).1 s.up s.down (Event.Brought End.Air (Frame.Data on) (kept.told (bring s.receiver n u s.clock).0)) s.log

pub takes : (w : Way) (s : State) (n : ℕ) (u : Bdu) (c : ℕ) → Is w s → Among (carrying n u c) s.up → s.clock ≤ c + w.delay End.Ground → Is w (take n u s)
takes w s n u c r i timely =
    on_with w (worldly s) s.log _ _ _ _ _ _ r
    (Step.take_data End.Air (record {
      wire = carrying n u c;
      number = n;
      bdu = u;
      underway = i;
      message = refl;
      timely = timely;
      event = refl;
      receiver = refl;
      log_on = refl;
      sender = refl;
      same = refl;
      clock = refl;
      lanes = λ e w i. i;
    }))

-- the air reports
abbrev pub telling : ℕ → List Bool → ℕ → Wire
telling R flags c = record { message = Message.ReportFrame on R flags; slot = c }

abbrev pub report : State → State
report s =
    made s.clock s.half s.count s.receiver s.up (telling s.receiver.oldest s.receiver.flags s.clock ∷ s.down) (Event.Reported End.Air (report_octets s.receiver.oldest)) s.log

pub reports : (w : Way) (s : State) → Is w s → Is w (report s)
reports w s r = on_with w (worldly s) s.log _ _ _ _ _ _ r (Step.report End.Air (record { octets = _; event = refl; same = both _ refl refl; clock = refl; own = λ w i. i; others = λ w i. i }))

-- the ground is brought a report
abbrev pub hear : Sending → List (ℕ × ℕ) → State → State
hear S ps s = made s.clock S s.count s.receiver s.up s.down (Event.Brought End.Ground (Frame.Report on) (Answer.Confirmed ps)) s.log

pub hears : (w : Way) (s : State) (R : ℕ) (flags : List Bool) (c : ℕ) (S : Sending) (ps : List (ℕ × ℕ)) → Is w s → Among (telling R flags c) s.down → s.clock ≤ c + w.delay End.Air
    → w.hears (sender s) s.clock R flags (Answer.Confirmed ps) (record { half = S; count = s.count })
    → Is w (hear S ps s)
hears w s R flags c S ps r i timely rule =
    on_with w (worldly s) s.log _ _ _ _ _ _ r
    (Step.take_report End.Ground (record {
      wire = telling R flags c;
      number = R;
      flags = flags;
      answer = Answer.Confirmed ps;
      kind = inl (ps, refl);
      underway = i;
      message = refl;
      timely = timely;
      event = refl;
      rule = rule;
      log_on = refl;
      receiver = refl;
      same = refl;
      clock = refl;
      lanes = λ e w i. i;
    }))

-- a slot
abbrev pub tick : ℕ → Sending → State → State
tick c S s = made c S 0 (slot c s.receiver) s.up s.down Event.Ticked s.log

abbrev fresh : Sender
fresh = record { half = new; count = 0 }

pub ticks : (w : Way) (s : State) (c : ℕ) (S : Sending) → Is w s → s.clock ≤ c → w.ticks (sender s) s.clock c (record { half = S; count = 0 }) → w.ticks fresh s.clock c fresh
    → receiving.new ≡ slot c receiving.new
    → Is w (tick c S s)
ticks w s c S r later ground air still =
    on_with w (worldly s) s.log _ _ _ _ _ _ r (Step.tick (record { event = refl; later = later; log_on = both _ refl refl; sender = both _ ground air; receiver = both _ still refl; lanes = λ e w i. i }))

-- ## a report that is not refused

abbrev pub no_flags : List Bool
no_flags = replicate 8 false

-- it tells of no number, or of the oldest one, which was sent
pub taken : (R : ℕ) (S : Sending) → gap R S ≤ 1 → (0 < gap R S → was_sent (mark S 0) ≡ true) → Refused R (flag no_flags) S → ⊥
taken R S small was =
    ⊎_elim (λ far. omega arith)
    (λ x.
    let k : ℕ = x.0 in
    let d : ℕ = gap R S in
    ⊎_elim
    (λ l. let n = ltb-true k d l in let z : k ≡ 0 = omega arith in both_ways true (sym (was (omega arith)) ∙ sym (ap (λ n. was_sent (mark S n)) z) ∙ x.2) refl)
    (λ l. let a = and_parts (ltb d k) (leb k (d + 8) && flag no_flags (k - d - 1)) l in both_ways _ (get_or_same 8 false (k - d - 1)) (and_parts (leb k (d + 8)) (flag no_flags (k - d - 1)) a.1).1)
    (or_cases (ltb k d) (ltb d k && (leb k (d + 8) && flag no_flags (k - d - 1))) x.1))

-- ## logs that are wrong

-- the event is an accept or a hand-up of this Q and RN
abbrev of_packet : ℕ → ℕ → Answer → Bool
of_packet q rn Answer.Held = false
of_packet q rn (Answer.Packet q' rn' octets) = eqb q q' && eqb rn rn'
of_packet q rn (Answer.Confirmed ps) = false
of_packet q rn (Answer.Refused n) = false

abbrev about : ℕ → ℕ → Event → Bool
about q rn (Event.LoggedOn e) = false
about q rn Event.Ticked = false
about q rn (Event.Accepted e q' rn' octets) = eqb q q' && eqb rn rn'
about q rn (Event.Sent e octets) = false
about q rn (Event.Reported e octets) = false
about q rn (Event.Brought e frame answer) = of_packet q rn answer
about q rn Event.Quiet = false

-- no event of the log is
abbrev pub silent : ℕ → ℕ → Log → Bool
silent q rn [] = true
silent q rn (x ∷ log) = not (about q rn x.event) && silent q rn log

same_names : (q rn : ℕ) → (eqb q q && eqb rn rn) ≡ true
same_names q rn = ap (λ b. b && eqb rn rn) (eq-eqb q q refl) ∙ eq-eqb rn rn refl

not_both : (b c : Bool) → (not b && c) ≡ true → b ≡ true → ⊥
not_both true c e t = both_ways true (sym e) refl
not_both false c e t = both_ways true (sym t) refl

silent_at : (q rn : ℕ) (log : Log) (x : Entry) → silent q rn log ≡ true → Among x log → about q rn x.event ≡ true → ⊥
silent_at q rn [] x e i a = i
silent_at q rn (y ∷ log) x e i a =
    let p = and_parts (not (about q rn y.event)) (silent q rn log) e in
    ⊎_elim (λ z. not_both (about q rn y.event) (silent q rn log) e (sym (ap (λ v. about q rn v.event) z) ∙ a)) (λ j. silent_at q rn log x p.1 j a) i

-- the last accept is this one, if the log is silent since
last_is : (q rn : ℕ) (octets : List ℕ) (newer : Log) (a : Entry) (older : Log) → Accepts End.Ground on q rn octets a → silent q rn newer ≡ true → (f : LastAccept End.Ground on q rn (newer ++ a ∷ older))
    → (newer ≡ f.newer) × (a ≡ f.accept)
last_is q rn octets newer a older accepted quiet f =
    ⊎_elim (λ i. absurd (silent_at q rn newer f.accept quiet i (ap (about q rn) f.accepts.0 ∙ same_names q rn)))
    (⊎_elim (λ h. (h.0, h.1)) (λ i. absurd (f.last a octets i accepted))) (splits_order newer a older f.newer f.accept f.older f.splits)

-- a packet is confirmed, and not handed up since its accept
pub uncredited : (q rn : ℕ) (octets : List ℕ) (x : Entry) (newer : Log) (a : Entry) (older : Log) → Confirms End.Ground on q rn x → Accepts End.Ground on q rn octets a → silent q rn newer ≡ true
    → Laws (x ∷ (newer ++ a ∷ older)) → ⊥
uncredited q rn octets x newer a older confirms accepted quiet laws =
    let p = (laws End.Ground on).0.confirms q rn confirms in
    let z = last_is q rn octets newer a older accepted quiet p.from in
    silent_at q rn newer p.hand_up quiet (subst (Among p.hand_up) (sym z.0) p.since) (ap (about q rn) p.hands_up.0.1 ∙ same_names q rn)

-- a packet is handed up with other octets than it was accepted with
pub garbled : (q rn : ℕ) (octets wrong : List ℕ) (x : Entry) (newer : Log) (a : Entry) (older : Log) → HandsUp End.Air on q rn wrong x → Accepts End.Ground on q rn octets a → silent q rn newer ≡ true
    → (octets ≡ wrong → ⊥) → Laws (x ∷ (newer ++ a ∷ older)) → ⊥
garbled q rn octets wrong x newer a older hands accepted quiet differ laws =
    let p = (laws End.Ground on).0.hand_ups q rn wrong hands in
    let z = last_is q rn octets newer a older accepted quiet p.from in
    let here = p.from.accepts.0 in
    let e = ap (λ v. v.event) z.1 in
    let given = accepted.0 in
    let same : octets ≡ p.from.octets = cc in
    differ (same ∙ p.same)
