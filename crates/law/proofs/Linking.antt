-- Runs of ends over a channel are runs of the world: each octet frame underway is what it says.
use Rattle.std.proofs.Common.{◌≡◌, ℕ, ◌+◌, ◌-◌, ◌*◌, ◌^◌, ◌<◌, ◌≤◌, Bool, true, false, cond, not, eqb, ltb, ◌⊎◌, List, [], ◌∷◌, map, length, get_or, Some, None, Ok, Err, Result, sym, refl, ap, ◌∙◌, subst, inl, inr, ⊎_elim, arith}
use Rattle.std.proofs.lemmas.List.{take_all}
use Rattle.std.proofs.lemmas.Bool.{cases_eq, cases_lt, both_ways, not-true, not-false, ltb-false, leb-false, eqb-true, eqb-false, eq-eqb, and_parts, and_from, or_parts, cond-true, cond-false}
use Rattle.frame.specs.Directions.{data_kind, report_kind, kind_octet}
use Rattle.frame.specs.Flags.{marks_of, flags_octet}
use Rattle.frame.specs.Frames.{kind_at, aircraft_at, log_on_at, number_at, header_at, payload_at}
use Rattle.frame.specs.Headers.{Small, rn_of, q_of, more_of, bsn_of}
use Rattle.frame.specs.Writing.{data_octets, report_octets}
use Rattle.frame.specs.declared.header.BduHeader.{BduHeader}
use Rattle.frame.specs.declared.kind.Way.{Way}
use Rattle.frame.specs.declared.kind.Way.TheVariants.{Up, Down}
use Rattle.frame.proofs.Marks.{marks_back}
use Rattle.frame.proofs.Octets.{header_back, log_on_back}
use Rattle.rules.specs.Ends.{Rows, refused_by, Reading, Reads, Brought, Sent, opposite, same_way, ours, new}
use Rattle.rules.specs.Ends as rules
use Rattle.rules.specs.Receiving.{Bdu, Receiving}
use Rattle.rules.specs.Receiving as receiving
use Rattle.rules.specs.ReceivingLaws as halves
use Rattle.frame.specs.Reasons.{number_of}
use Rattle.rules.specs.Refusals.{refusal_of}
use Rattle.rules.specs.Sending as sending
use Rattle.rules.specs.Reports.{is_refused}
use Rattle.rules.specs.declared.fault.EndFault.{EndFault}
use Rattle.rules.specs.declared.fault.EndFault.TheVariants as fault
use Rattle.rules.proofs.ReceivingLaws.{never_whole}
use Rattle.rules.proofs.Refusing.{test_decides}
use Rattle.rules.specs.Members.{Among}
use Rattle.law.specs.Log.{End, other, LogOn, Frame, Answer, Event, Log}
use Rattle.law.specs.Channels.{Channel, Underway, NoneAdded, Moves, Puts, Gives}
use Rattle.law.specs.Links.{State, way, held, entry, Only, LinkKeepsLaws}
use Rattle.law.specs.Links as links
use Rattle.law.specs.World.{Message, Wire, EndState, World, Shows}
use Rattle.law.specs.WorldSteps as world
use Rattle.law.specs.Kept.{told}
use Rattle.law.specs.LinkRuns.{Sender}
use Rattle.law.specs.LinkRuns as runs
use Rattle.law.proofs.Base.{never}
use Rattle.law.proofs.Sides.{both, each}
use Rattle.law.proofs.LinkRuns.{runs_keep_laws}
use Rattle.rules.proofs.Lists.{first_most}

-- ## the world of a state

abbrev ended : rules.End → EndState Sender
ended e = record { log_on = held e; sender = record { half = e.sends; count = e.count }; receiver = e.receives }

abbrev bdu_of : List ℕ → Bdu
bdu_of bs = record { q = q_of (header_at bs); rn = rn_of (header_at bs); more = more_of (header_at bs); bsn = bsn_of (header_at bs); octets = payload_at bs }

abbrev log_on_of : List ℕ → LogOn
log_on_of bs = record { aircraft = aircraft_at bs; number = log_on_at bs }

-- what a frame says that the end e put
abbrev message : End → List ℕ → Message
message e bs =
    cond (eqb (kind_at bs) (kind_octet (data_kind (way e))))
    (Message.DataFrame (log_on_of bs) (number_at bs) (bdu_of bs))
    (Message.ReportFrame (log_on_of bs) (number_at bs) (marks_of (header_at bs)))

abbrev wire : End → Underway → Wire
wire e f = record { message = message e f.octets; slot = f.slot }

abbrev world_of : State → World Sender
world_of s = record { clock = s.channel.clock; ends = λ e. ended (s.ends e); lane = λ e. map (wire e) (s.channel.lane e) }

-- what holds of every state of a run: one clock, log-on numbers of four octets, and receiving halves that calls have led to
record Sane (s : State) : Type 0 where
  pub clocks : (e : End) → (s.ends e).clock ≡ s.channel.clock
  pub numbers : (e : End) → (s.ends e).log_on < 2 ^ 32
  pub tidy : (e : End) → halves.Brought (s.ends e).receives

-- ## ends, lanes and rows

among_map : {A B : Type 0} (f : A → B) (x : A) (xs : List A) → Among x xs → Among (f x) (map f xs)
among_map f x [] a = a
among_map f x (y ∷ ys) (inl e) = inl (ap f e)
among_map f x (y ∷ ys) (inr a) = inr (among_map f x ys a)

map_among : {A B : Type 0} (f : A → B) (y : B) (xs : List A) → Among y (map f xs) → (x : A) × Among x xs × (y ≡ f x)
map_among f y [] a = absurd a
map_among f y (x ∷ xs) (inl e) = (x, inl refl, e)
map_among f y (x ∷ xs) (inr a) = let r = map_among f y xs a in (r.0, inr r.1, r.2)

-- no wire is added where no frame is
fewer : (c c' : Channel) (e : End) → NoneAdded c c' e → (w : Wire) → Among w (map (wire e) (c'.lane e)) → Among w (map (wire e) (c.lane e))
fewer c c' e less w a =
    let r = map_among (wire e) w (c'.lane e) a in
    subst (λ v. Among v (map (wire e) (c.lane e))) (sym r.2) (among_map (wire e) r.0 (c.lane e) (less r.0 r.1))

same_lanes : (c c' : Channel) → c' ≡ c → (e : End) → NoneAdded c c' e
same_lanes c c' eq e f a = subst (λ x. Among f (x.lane e)) eq a

-- no row refuses: all tests fail
abbrev Clear : Rows → Type 0
Clear [] = Unit {0}
Clear (row ∷ rows) = (row.0 ≡ false) × Clear rows

all_clear : (rows : Rows) → refused_by rows ≡ None → Clear rows
all_clear [] e = tt
all_clear ((true, f) ∷ rows) e = never (let z : ◌≡◌ {A = ℕ} 0 1 = cc in z)
all_clear ((false, f) ∷ rows) e = (refl, all_clear rows e)

first_row : (b : Bool) (f : EndFault) (rows : Rows) (g : EndFault) → refused_by ((b, f) ∷ rows) ≡ Some g → ((b ≡ true) × (f ≡ g)) ⊎ ((b ≡ false) × (refused_by rows ≡ Some g))
first_row true f rows g e = inl (refl, cc)
first_row false f rows g e = inr (refl, e)

shows : (s : State) (event : Event) → Shows Sender (runs.rules).oldest (runs.rules).acknowledged (world_of s) (entry s event)
shows s event = record {
  slot = refl;
  log_on = both _ refl refl;
  oldest = both _ refl refl;
  acknowledged = both _ refl refl;
  awaits = both _ refl refl;
  flags = both _ refl refl;
}

below_four : (n : ℕ) → n ≤ 4 → (n ≡ 4 → ⊥) → n < 4
below_four n l ne = ⊎_elim (λ e. absurd (ne e)) (λ d. ⊎_elim (λ h. h) (λ h. absurd (omega arith)) (cases_lt n 4)) (cases_eq n 4)

-- the count begins again in a later slot
counts : (a b slot c count : ℕ) → a ≡ b → slot ≡ c → cond (ltb a slot) 0 count ≡ cond (ltb b c) 0 count
counts a b slot c count e f = ap (λ (x : ℕ). cond (ltb x slot) 0 count) e ∙ ap (λ (y : ℕ). cond (ltb b y) 0 count) f

-- ## what written frames say

-- a put frame is the only wire that may be new
own_lane : (c c' : Channel) (x : End) (octets : List ℕ) (m : Message) → message x octets ≡ m → Puts c c' x octets
    → (v : Wire) → Among v (map (wire x) (c'.lane x)) → (v ≡ record { message = m; slot = c.clock }) ⊎ Among v (map (wire x) (c.lane x))
own_lane c c' x octets m says puts v a =
    let r = map_among (wire x) v (c'.lane x) a in
    ⊎_elim
    (λ new. inl (r.2 ∙ ap (wire x) new ∙ ap (λ (n : Message). record { message = n; slot = c.clock }) says))
    (λ old. inr (subst (λ w. Among w (map (wire x) (c.lane x))) (sym r.2) (among_map (wire x) r.0 (c.lane x) old)))
    (puts.own r.0 r.1)

report_kind_apart : (x : End) → eqb (kind_octet (report_kind (opposite (way x)))) (kind_octet (data_kind (way x))) ≡ false
report_kind_apart End.Ground = refl
report_kind_apart End.Air = refl

-- a report that is written says R and the flags
report_says : (x : End) (e : rules.End) (octets : List ℕ) → e.log_on < 2 ^ 32 → length e.receives.flags ≡ 8
    → octets ≡ report_octets (opposite (way x)) e.aircraft e.log_on e.receives.oldest (flags_octet e.receives.flags)
    → message x octets ≡ Message.ReportFrame (held e) e.receives.oldest e.receives.flags
report_says x e octets small eight is =
    ap (message x) is
    ∙ cond-false _ _ _ (report_kind_apart x)
    ∙ ap (λ (n : ℕ). Message.ReportFrame (record { aircraft = e.aircraft; number = n }) e.receives.oldest (marks_of (flags_octet e.receives.flags))) (log_on_back e.log_on small)
    ∙ ap (λ (fs : List Bool). Message.ReportFrame (held e) e.receives.oldest fs) (marks_back e.receives.flags eight)

data_kind_same : (x : End) → eqb (kind_octet (data_kind (way x))) (kind_octet (data_kind (way x))) ≡ true
data_kind_same End.Ground = refl
data_kind_same End.Air = refl

-- the BDU that a header and octets make
abbrev unit : BduHeader → List ℕ → Bdu
unit h octets = record { q = h.q; rn = h.rn; more = h.more; bsn = h.bsn; octets = octets }

-- a data frame that is written says its number and its BDU
data_says : (x : End) (e : rules.End) (octets : List ℕ) (number : ℕ) (h : BduHeader) (payload : List ℕ) → e.log_on < 2 ^ 32 → Small h
    → octets ≡ data_octets (way x) e.aircraft e.log_on number h payload
    → message x octets ≡ Message.DataFrame (held e) number (unit h payload)
data_says x e octets number h payload small fits is =
    ap (message x) is
    ∙ cond-true _ _ _ (data_kind_same x)
    ∙ ap (λ (n : ℕ). Message.DataFrame (record { aircraft = e.aircraft; number = n }) number (bdu_of (data_octets (way x) e.aircraft e.log_on number h payload))) (log_on_back e.log_on small)
    ∙ ap (λ (g : BduHeader). Message.DataFrame (held e) number (unit g (payload_at (data_octets (way x) e.aircraft e.log_on number h payload)))) (header_back h fits)
    ∙ ap (λ (p : List ℕ). Message.DataFrame (held e) number (unit h p)) (take_all (length (data_octets (way x) e.aircraft e.log_on number h payload) - 8) payload (omega arith))

-- ## what frames that are read say

same_way_is : (v w : Way) → same_way v w ≡ true → v ≡ w
same_way_is Up Up e = refl
same_way_is Up Down e = never (let z : ◌≡◌ {A = ℕ} 0 1 = cc in z)
same_way_is Down Up e = never (let z : ◌≡◌ {A = ℕ} 0 1 = cc in z)
same_way_is Down Down e = refl

other_way : (x : End) → opposite (way x) ≡ way (other x)
other_way End.Ground = refl
other_way End.Air = refl

own_report_apart : (x : End) → eqb (kind_octet (report_kind (way x))) (kind_octet (data_kind (way (other x)))) ≡ false
own_report_apart End.Ground = refl
own_report_apart End.Air = refl

-- a frame for this end carries its log-on
ours_held : (v : Way) (e : rules.End) (w : Way) (aircraft number : ℕ) → ours v e w aircraft number ≡ true
    → (v ≡ w) × (◌≡◌ {A = LogOn} (record { aircraft = aircraft; number = number }) (held e))
ours_held v e w aircraft number t =
    let p = and_parts _ _ t in
    let r = and_parts _ _ p.1 in
    let a = eqb-true aircraft e.aircraft r.0 in
    let n = eqb-true number e.log_on r.1 in
    (same_way_is v w p.0, cc)

-- a frame of this way that carries its log-on is for this end
held_ours : (v : Way) (e : rules.End) (w : Way) (aircraft number : ℕ) → same_way v w ≡ true
    → ◌≡◌ {A = LogOn} (record { aircraft = aircraft; number = number }) (held e) → ours v e w aircraft number ≡ true
held_ours v e w aircraft number same is =
    and_from _ _ same
    (and_from _ _ (eq-eqb aircraft e.aircraft (ap (λ (l : LogOn). l.aircraft) is)) (eq-eqb number e.log_on (ap (λ (l : LogOn). l.number) is)))

read_data : (x : End) (bs : List ℕ) (w : Way) (aircraft number n : ℕ) (u : Bdu) → Reads bs (Reading.Data w aircraft number n u) → opposite (way x) ≡ w
    → message (other x) bs ≡ Message.DataFrame (record { aircraft = aircraft; number = number }) n u
read_data x bs w aircraft number n u c is =
    let kind : kind_at bs ≡ kind_octet (data_kind (way (other x))) = c.kind ∙ ap (λ (v : Way). kind_octet (data_kind v)) (sym is ∙ other_way x) in
    let whole : bdu_of bs ≡ u = ap (λ (h : BduHeader). unit h (payload_at bs)) (sym c.same_header) ∙ ap (unit (rules.bdu_header u)) (sym c.same_payload) in
    let a = c.same_aircraft in
    let l = c.same_log_on in
    let m = c.same_number in
    cond-true _ _ _ (eq-eqb _ _ kind) ∙ cc

read_report : (x : End) (bs : List ℕ) (w : Way) (aircraft number R : ℕ) (flags : List Bool) → Reads bs (Reading.Report w aircraft number R flags) → way x ≡ w
    → message (other x) bs ≡ Message.ReportFrame (record { aircraft = aircraft; number = number }) R flags
read_report x bs w aircraft number R flags r is =
    let c = r.1 in
    let kind : kind_at bs ≡ kind_octet (report_kind (way x)) = c.kind ∙ ap (λ (v : Way). kind_octet (report_kind v)) (sym is) in
    let f : flags ≡ marks_of (header_at bs) = r.2 ∙ ap marks_of c.same_flags in
    let a = c.same_aircraft in
    let l = c.same_log_on in
    let m = c.same_oldest in
    cond-false _ _ _ (ap (λ (k : ℕ). eqb k (kind_octet (data_kind (way (other x))))) kind ∙ own_report_apart x) ∙ cc

-- data is no report
data_no_report : (b : Bool) (l m : LogOn) → cond b (Frame.Data l) Frame.Foreign ≡ Frame.Report m → ⊥
data_no_report true l m e = never (let z : ◌≡◌ {A = ℕ} 0 1 = cc in z)
data_no_report false l m e = never (let z : ◌≡◌ {A = ℕ} 0 1 = cc in z)

-- a report that is not for this end is not one of its log-on
report_not_ours : (b : Bool) (l m : LogOn) → (b ≡ true → l ≡ m → ⊥) → cond b (Frame.Report l) Frame.Foreign ≡ Frame.Report m → ⊥
report_not_ours true l m never_so e = never_so refl (cc)
report_not_ours false l m never_so e = never (let z : ◌≡◌ {A = ℕ} 0 1 = cc in z)

took_told : (a : receiving.Answer) (b : Brought) → rules.Took a b → links.answered (Ok b) ≡ told a
took_told receiving.Answer.Held b t = ap (λ (v : Brought). links.answered (Ok v)) t
took_told (receiving.Answer.Packet q rn octets) b t = ap (λ (v : Brought). links.answered (Ok v)) t
took_told (receiving.Answer.Refused n) b t = absurd t

-- ## each step

module _ (delay : End → ℕ) where
  abbrev Went : State → State → Event → Type 0
  Went s s' event = world.Step Sender runs.rules delay (world_of s) (world_of s') (entry s' event) × Sane s'

  quiet : (s s' : State) (event : Event) → Sane s → ((e : End) → s'.ends e ≡ s.ends e) → s'.channel.clock ≡ s.channel.clock
      → ((e : End) → NoneAdded s.channel s'.channel e)
      → (event ≡ Event.Quiet) ⊎ ((x : End) × (f : Frame) × (n : ℕ) × (event ≡ Event.Brought x f (Answer.Refused n)) × (f ≡ Frame.Report (held (s.ends x)) → ⊥))
      → Went s s' event
  quiet s s' event sane same clock less why = (
    world.Step.none (record { event = why; same = λ e. ap ended (same e); clock = clock; lanes = λ e. fewer s.channel s'.channel e (less e) }),
    record {
      clocks = λ e. ap (λ (v : rules.End). v.clock) (same e) ∙ sane.clocks e ∙ sym clock;
      numbers = λ e. subst (λ (v : rules.End). v.log_on < 2 ^ 32) (sym (same e)) (sane.numbers e);
      tidy = λ e. subst (λ (v : rules.End). halves.Brought v.receives) (sym (same e)) (sane.tidy e);
    },
  )

  -- a call that was refused, or that changed nothing
  still : (s s' : State) (x : End) (e : rules.End) → Sane s → Only s x e s' → e ≡ s.ends x → s'.channel ≡ s.channel → Went s s' Event.Quiet
  still s s' x e sane only same channel =
      quiet s s' Event.Quiet sane (each x (λ d. s'.ends d ≡ s.ends d) (only.0 ∙ same) only.1) (ap (λ (c : Channel). c.clock) channel)
      (same_lanes s.channel s'.channel channel) (inl refl)

  -- one end changed, and not its clock
  sane_only : (s s' : State) (x : End) (e : rules.End) → Sane s → Only s x e s' → s'.channel.clock ≡ s.channel.clock → e.clock ≡ (s.ends x).clock
      → e.log_on < 2 ^ 32 → halves.Brought e.receives → Sane s'
  sane_only s s' x e sane only clock same small tidy = record {
    clocks = each x (λ d. (s'.ends d).clock ≡ s'.channel.clock)
        (ap (λ (v : rules.End). v.clock) only.0 ∙ same ∙ sane.clocks x ∙ sym clock)
        (ap (λ (v : rules.End). v.clock) only.1 ∙ sane.clocks (other x) ∙ sym clock);
    numbers = each x (λ d. (s'.ends d).log_on < 2 ^ 32)
        (subst (λ (v : rules.End). v.log_on < 2 ^ 32) (sym only.0) small)
        (subst (λ (v : rules.End). v.log_on < 2 ^ 32) (sym only.1) (sane.numbers (other x)));
    tidy = each x (λ d. halves.Brought (s'.ends d).receives)
        (subst (λ (v : rules.End). halves.Brought v.receives) (sym only.0) tidy)
        (subst (λ (v : rules.End). halves.Brought v.receives) (sym only.1) (sane.tidy (other x)));
  }

  logs_on : (s s' : State) → Sane s → (x : End) (aircraft number : ℕ) → number < 2 ^ 32 → (r : Result (List (ℕ × ℕ)) EndFault) (e : rules.End)
      → rules.LogsOn (s.ends x) aircraft number r e → Only s x e s' → s'.channel ≡ s.channel → Went s s' (links.logged_on x r)
  logs_on s s' sane x aircraft number small (Err fault) e rule only channel = still s s' x e sane only rule.1 channel
  logs_on s s' sane x aircraft number small (Ok cut_off) e rule only channel =
      let is : s'.ends x ≡ rules.logged_on aircraft number (s.ends x) = only.0 ∙ rule.1.1 in
      let clock : s'.channel.clock ≡ s.channel.clock = ap (λ (c : Channel). c.clock) channel in (
        world.Step.log_on x (record {
          to = record { aircraft = aircraft; number = number };
          event = refl;
          greater = leb-false number (s.ends x).log_on (all_clear (rules.log_on_rows (s.ends x) aircraft number) rule.0).0;
          now = ap held is;
          sender = ap (λ (v : rules.End). v.sends) is;
          receiver = ap (λ (v : rules.End). v.receives) is;
          same = ap ended only.1;
          clock = clock;
          lanes = λ d. fewer s.channel s'.channel d (same_lanes s.channel s'.channel channel d);
        }),
        sane_only s s' x (rules.logged_on aircraft number (s.ends x)) sane (is, only.1) clock refl small halves.Brought.start,
      )

  accepts : (s s' : State) → Sane s → (x : End) (q : ℕ) (octets : List ℕ) (r : Result ℕ EndFault) (e : rules.End)
      → rules.Accepts (s.ends x) q octets r e → Only s x e s' → s'.channel ≡ s.channel → Went s s' (links.accepted x q octets r)
  accepts s s' sane x q octets (Err fault) e rule only channel = still s s' x e sane only rule.1 channel
  accepts s s' sane x q octets (Ok rn) e rule only channel =
      let S : sending.Sending = (s.ends x).sends in
      let is : s'.ends x ≡ rules.with_sends (sending.accepted q rn octets (s.ends x).clock S) (s.ends x) = only.0 ∙ rule.1.1 in
      let clock : s'.channel.clock ≡ s.channel.clock = ap (λ (c : Channel). c.clock) channel in
      let clear = all_clear (rules.accept_rows (s.ends x) q octets) rule.0 in
      let size = or_parts _ _ clear.0 in
      let rest = or_parts _ _ size.1 in
      let least : 1 ≤ length octets = ltb-false (length octets) 1 size.0 in
      let most : length octets ≤ 424 = ltb-false 424 (length octets) rest.0 in
      let priority : q ≤ 3 = ltb-false 3 q rest.1 in
      let some : sending.passed S q ≡ 4 → ⊥ = eqb-false (sending.passed S q) 4 clear.1.1.0 in
      let free : sending.passed S q < 4 = below_four (sending.passed S q) (first_most 4 (λ k. sending.is_free (sending.packet S (4 * q + sending.turn S q k)).standing)) some in (
        world.Step.accept x (record {
          q = q;
          rn = rn;
          octets = octets;
          event = refl;
          rule = record {
            priority = omega arith;
            some = least;
            most = most;
            free = free;
            turn = rule.1.0;
            half = ap (λ (v : rules.End). v.sends) is ∙ ap (λ (t : ℕ). sending.accepted q rn octets t S) (sane.clocks x);
            count = ap (λ (v : rules.End). v.count) is;
          };
          log_on = ap held is;
          receiver = ap (λ (v : rules.End). v.receives) is;
          same = ap ended only.1;
          clock = clock;
          lanes = λ d. fewer s.channel s'.channel d (same_lanes s.channel s'.channel channel d);
        }),
        sane_only s s' x _ sane (is, only.1) clock refl (sane.numbers x) (sane.tidy x),
      )

  ticks : (s s' : State) → Sane s → (slot : ℕ) → ((e : End) → (gone : List (ℕ × ℕ)) × rules.Slots (s.ends e) slot (Ok gone) (s'.ends e))
      → Moves s.channel s'.channel slot → Went s s' Event.Ticked
  ticks s s' sane slot rule moves =
      let is : (e : End) → s'.ends e ≡ rules.moved_to slot (s.ends e) = λ e. (rule e).1.1.1 in
      let later : (e : End) → (s.ends e).clock ≤ slot = λ e. ltb-false slot (s.ends e).clock (or_parts _ _ (all_clear (rules.slot_rows (s.ends e) slot) (rule e).1.0).0).0 in (
        world.Step.tick (record {
          event = refl;
          later = let a = later End.Ground in let b = sane.clocks End.Ground in let c = moves.clock in omega arith;
          log_on = λ e. ap held (is e);
          sender = λ e. record {
            half = ap (λ (v : rules.End). v.sends) (is e) ∙ ap (λ (t : ℕ). sending.slotted t (s.ends e).sends) (sym moves.clock);
            count = ap (λ (v : rules.End). v.count) (is e) ∙ counts (s.ends e).clock s.channel.clock slot s'.channel.clock (s.ends e).count (sane.clocks e) (sym moves.clock);
          };
          receiver = λ e. ap (λ (v : rules.End). v.receives) (is e) ∙ ap (λ (t : ℕ). receiving.slot t (s.ends e).receives) (sym moves.clock);
          lanes = λ e. fewer s.channel s'.channel e (moves.lanes e);
        }),
        record {
          clocks = λ e. ap (λ (v : rules.End). v.clock) (is e) ∙ sym moves.clock;
          numbers = λ e. subst (λ (v : rules.End). v.log_on < 2 ^ 32) (sym (is e)) (sane.numbers e);
          tidy = λ e. subst (λ (v : rules.End). halves.Brought v.receives) (sym (is e)) (halves.Brought.slot_came (sane.tidy e) slot);
        },
      )

  reports : (s s' : State) → Sane s → (x : End) (room : ℕ) (r : Result (List ℕ) EndFault) (e : rules.End)
      → rules.ReportsFrame (way x) (s.ends x) room r e → Only s x e s' → links.ReportPuts s.channel s'.channel x r → Went s s' (links.reported x r)
  reports s s' sane x room (Err fault) e rule only channel = still s s' x e sane only rule.1 channel
  reports s s' sane x room (Ok octets) e rule only puts =
      let same : (d : End) → s'.ends d ≡ s.ends d = each x (λ d. s'.ends d ≡ s.ends d) (only.0 ∙ rule.1.1) only.1 in
      let says = report_says x (s.ends x) octets (sane.numbers x) (never_whole (s.ends x).receives (sane.tidy x)).flags rule.1.0 in
      let q = quiet s s' Event.Quiet sane same puts.clock in (
        world.Step.report x (record {
          octets = octets;
          event = refl;
          same = λ d. ap ended (same d);
          clock = puts.clock;
          own = own_lane s.channel s'.channel x octets _ says puts;
          others = fewer s.channel s'.channel (other x) puts.others;
        }),
        record {
          clocks = λ d. ap (λ (v : rules.End). v.clock) (same d) ∙ sane.clocks d ∙ sym puts.clock;
          numbers = λ d. subst (λ (v : rules.End). v.log_on < 2 ^ 32) (sym (same d)) (sane.numbers d);
          tidy = λ d. subst (λ (v : rules.End). halves.Brought v.receives) (sym (same d)) (sane.tidy d);
        },
      )

  sends : (s s' : State) → Sane s → (x : End) (room : ℕ) (r : Result Sent EndFault) (e : rules.End)
      → rules.SendsFrame (way x) (s.ends x) room r e → Only s x e s' → links.SendPuts s.channel s'.channel x r → Went s s' (links.sent x r)
  sends s s' sane x room (Err fault) e rule only channel = still s s' x e sane only rule.1 channel
  sends s s' sane x room (Ok Sent.NoneIdle) e rule only channel = still s s' x e sane only rule.1.1 channel
  sends s s' sane x room (Ok Sent.NoneFull) e rule only channel = still s s' x e sane only rule.1.1 channel
  sends s s' sane x room (Ok Sent.NoneShut) e rule only channel = still s s' x e sane only rule.1.1 channel
  sends s s' sane x room (Ok (Sent.Frame octets)) e rule only puts =
      let f = rule.1 in
      let h : BduHeader = rules.header f.bdu f.more in
      let is : s'.ends x ≡ rules.sent_one f.after (s.ends x) = only.0 ∙ f.end in
      let waits = f.rule.0.1.here in
      let says = data_says x (s.ends x) octets f.number h f.payload (sane.numbers x) (record { rn_small = waits.rn; q_small = waits.q; bsn_small = waits.eight }) f.written in (
        world.Step.send x (record {
          octets = octets;
          event = refl;
          number = f.number;
          bdu = unit h f.payload;
          rule = record {
            half =
                subst (λ (S : sending.Sending). sending.Sends s.channel.clock (s.ends x).count (s.ends x).sends (sending.Answer.Sent f.number f.bdu f.more f.payload) S)
                (sym (ap (λ (v : rules.End). v.sends) is))
                (subst (λ (t : ℕ). sending.Sends t (s.ends x).count (s.ends x).sends (sending.Answer.Sent f.number f.bdu f.more f.payload) f.after) (sane.clocks x) f.rule);
            count = let c = ap (λ (v : rules.End). v.count) is in omega arith;
          };
          log_on = ap held is;
          receiver = ap (λ (v : rules.End). v.receives) is;
          same = ap ended only.1;
          clock = puts.clock;
          own = own_lane s.channel s'.channel x octets _ says puts;
          others = fewer s.channel s'.channel (other x) puts.others;
        }),
        sane_only s s' x _ sane (is, only.1) puts.clock refl (sane.numbers x) (sane.tidy x),
      )

  -- a frame that is refused changes nothing
  refuses : (s s' : State) → Sane s → (x : End) (f : Underway) (e : rules.End) → Gives s.channel s'.channel delay x f → Only s x e s' → e ≡ s.ends x
      → (frame : Frame) (n : ℕ) → (frame ≡ Frame.Report (held (s.ends x)) → ⊥) → Went s s' (Event.Brought x frame (Answer.Refused n))
  refuses s s' sane x f e gives only same frame n not_own =
      quiet s s' (Event.Brought x frame (Answer.Refused n)) sane (each x (λ d. s'.ends d ≡ s.ends d) (only.0 ∙ same) only.1) gives.clock gives.lanes
      (inr (x, frame, n, refl, not_own))

  takes_data : (s s' : State) → Sane s → (x : End) (f : Underway) → Gives s.channel s'.channel delay x f
      → (w : Way) (aircraft number n : ℕ) (u : Bdu) → Reads f.octets (Reading.Data w aircraft number n u) → ours (opposite (way x)) (s.ends x) w aircraft number ≡ true
      → (b : Brought) (e : rules.End) → rules.BringRule (s.ends x) (Reading.Data w aircraft number n u) b e → Only s x e s'
      → Went s s' (Event.Brought x (links.seen x (Reading.Data w aircraft number n u)) (links.answered (Ok b)))
  takes_data s s' sane x f gives w aircraft number n u reads mine b e rule only =
      let V : Receiving = (s.ends x).receives in
      let l : LogOn = record { aircraft = aircraft; number = number } in
      let o = ours_held (opposite (way x)) (s.ends x) w aircraft number mine in
      let is : s'.ends x ≡ rules.with_receives (receiving.bring V n u (s.ends x).clock).1 (s.ends x) = only.0 ∙ rule.1 in
      let answer : links.answered (Ok b) ≡ told (receiving.bring V n u s.channel.clock).0 =
      took_told (receiving.bring V n u (s.ends x).clock).0 b rule.0 ∙ ap (λ (t : ℕ). told (receiving.bring V n u t).0) (sane.clocks x) in
      let frame : links.seen x (Reading.Data w aircraft number n u) ≡ Frame.Data (held (s.ends x)) =
      cond-true (same_way (opposite (way x)) w) (Frame.Data l) Frame.Foreign (and_parts _ _ mine).0 ∙ ap Frame.Data o.1 in (
        world.Step.take_data x (record {
          wire = wire (other x) f;
          number = n;
          bdu = u;
          underway = among_map (wire (other x)) f (s.channel.lane (other x)) gives.was;
          message = read_data x f.octets w aircraft number n u reads o.0 ∙ ap (λ (k : LogOn). Message.DataFrame k n u) o.1;
          timely = gives.young;
          event = ap (λ (g : Frame). Event.Brought x g (links.answered (Ok b))) frame ∙ ap (λ (a : Answer). Event.Brought x (Frame.Data (held (s.ends x))) a) answer;
          receiver = ap (λ (v : rules.End). v.receives) is ∙ ap (λ (t : ℕ). (receiving.bring V n u t).1) (sane.clocks x);
          log_on = ap held is;
          sender = ap (λ (v : rules.End). (ended v).sender) is;
          same = ap ended only.1;
          clock = gives.clock;
          lanes = λ d. fewer s.channel s'.channel d (gives.lanes d);
        }),
        sane_only s s' x _ sane (is, only.1) gives.clock refl (sane.numbers x) (halves.Brought.data_came (sane.tidy x) n u (s.ends x).clock),
      )

  module _ (s s' : State) (sane : Sane s) (x : End) (f : Underway) (gives : Gives s.channel s'.channel delay x f) (w : Way) (aircraft number R : ℕ) (flags : List Bool)
      (reads : Reads f.octets (Reading.Report w aircraft number R flags)) (mine : ours (way x) (s.ends x) w aircraft number ≡ true) where
    takes_report : (e : rules.End) → s'.ends x ≡ e → s'.ends (other x) ≡ s.ends (other x) → e.log_on ≡ (s.ends x).log_on → e.aircraft ≡ (s.ends x).aircraft
        → e.receives ≡ (s.ends x).receives → e.clock ≡ (s.ends x).clock → (answer : Answer)
        → ((ps : List (ℕ × ℕ)) × (answer ≡ Answer.Confirmed ps)) ⊎ ((n : ℕ) × (answer ≡ Answer.Refused n))
        → runs.Hears (record { half = (s.ends x).sends; count = (s.ends x).count }) s.channel.clock R flags answer (record { half = e.sends; count = e.count })
        → Went s s' (Event.Brought x (links.seen x (Reading.Report w aircraft number R flags)) answer)
    takes_report e is others same_number same_aircraft same_receives same_clock answer kind rule =
        let l : LogOn = record { aircraft = aircraft; number = number } in
        let o = ours_held (way x) (s.ends x) w aircraft number mine in
        let frame : links.seen x (Reading.Report w aircraft number R flags) ≡ Frame.Report (held (s.ends x)) =
        cond-true (same_way (way x) w) (Frame.Report l) Frame.Foreign (and_parts _ _ mine).0 ∙ ap Frame.Report o.1 in (
          world.Step.take_report x (record {
            wire = wire (other x) f;
            number = R;
            flags = flags;
            answer = answer;
            kind = kind;
            underway = among_map (wire (other x)) f (s.channel.lane (other x)) gives.was;
            message = read_report x f.octets w aircraft number R flags reads o.0 ∙ ap (λ (k : LogOn). Message.ReportFrame k R flags) o.1;
            timely = gives.young;
            event = ap (λ (g : Frame). Event.Brought x g answer) frame;
            rule = subst (λ (v : rules.End). runs.Hears (ended (s.ends x)).sender s.channel.clock R flags answer (ended v).sender) (sym is) rule;
            log_on = ap held is ∙ cc;
            receiver = ap (λ (v : rules.End). v.receives) is ∙ same_receives;
            same = ap ended others;
            clock = gives.clock;
            lanes = λ d. fewer s.channel s'.channel d (gives.lanes d);
          }),
          sane_only s s' x e sane (is, others) gives.clock same_clock
              (subst (λ (k : ℕ). k < 2 ^ 32) (sym same_number) (sane.numbers x))
              (subst halves.Brought (sym same_receives) (sane.tidy x)),
        )

  takes : (s s' : State) → Sane s → (x : End) (f : Underway) (room : ℕ) (reading : Reading) (r : Result Brought EndFault) (e : rules.End)
      → Gives s.channel s'.channel delay x f → Reads f.octets reading
      → rules.Ruled (rules.bring_rows (way x) (s.ends x) room reading) (s.ends x) (rules.BringRule (s.ends x) reading) r e → Only s x e s'
      → Went s s' (Event.Brought x (links.seen x reading) (links.answered r))
  takes s s' sane x f room (Reading.Torn place) (Ok b) e gives reads rule only = absurd rule.1
  takes s s' sane x f room (Reading.Torn place) (Err fault) e gives reads rule only =
      refuses s s' sane x f e gives only rule.1 Frame.Foreign _ (λ q. never (let z : ◌≡◌ {A = ℕ} 0 1 = cc in z))
  takes s s' sane x f room (Reading.Data w aircraft number n u) (Err fault) e gives reads rule only =
      refuses s s' sane x f e gives only rule.1 _ _ (data_no_report (same_way (opposite (way x)) w) _ _)
  takes s s' sane x f room (Reading.Data w aircraft number n u) (Ok b) e gives reads rule only =
      let clear = all_clear (rules.bring_rows (way x) (s.ends x) room (Reading.Data w aircraft number n u)) rule.0 in
      takes_data s s' sane x f gives w aircraft number n u reads (not-false _ clear.1.0) b e rule.1 only
  takes s s' sane x f room (Reading.Report w aircraft number R flags) (Ok b) e gives reads rule only =
      let clear = all_clear (rules.bring_rows (way x) (s.ends x) room (Reading.Report w aircraft number R flags)) rule.0 in
      let flag : ℕ → Bool = λ i. get_or flags i false in
      let S : sending.Sending = (s.ends x).sends in
      let names : List (ℕ × ℕ) = rules.named (sending.confirmed R flag s.channel.clock S) in
      let after : rules.End = rules.with_sends (sending.heard R flag (s.ends x).clock S) (s.ends x) in
      let is : b ≡ Brought.Confirmed names = rule.1.0 ∙ ap (λ (t : ℕ). Brought.Confirmed (rules.named (sending.confirmed R flag t S))) (sane.clocks x) in
      subst (λ (v : Brought). Went s s' (Event.Brought x (links.seen x (Reading.Report w aircraft number R flags)) (links.answered (Ok v)))) (sym is)
      (takes_report s s' sane x f gives w aircraft number R flags reads (not-false _ clear.0) after (only.0 ∙ rule.1.1) only.1 refl refl refl refl
      (Answer.Confirmed names) (inl (names, refl))
      (record {
        taken = (test_decides R flag S).taken clear.1.0;
        packets = refl;
        half = ap (λ (t : ℕ). sending.heard R flag t S) (sane.clocks x);
        count = refl;
      }))
  takes s s' sane x f room (Reading.Report w aircraft number R flags) (Err why) e gives reads rule only =
      let flag : ℕ → Bool = λ i. get_or flags i false in
      let S : sending.Sending = (s.ends x).sends in
      let mine : Bool = ours (way x) (s.ends x) w aircraft number in
      ⊎_elim
      (λ foreign.
      refuses s s' sane x f e gives only rule.1 _ _
      (report_not_ours (same_way (way x) w) _ _ (λ same is. both_ways mine (not-true mine foreign.0) (held_ours (way x) (s.ends x) w aircraft number same is))))
      (λ near.
      ⊎_elim
      (λ astray.
      let seven : number_of (refusal_of why).reason ≡ 7 = ap (λ (g : EndFault). number_of (refusal_of g).reason) (sym astray.1) in
      subst (λ (k : ℕ). Went s s' (Event.Brought x (links.seen x (Reading.Report w aircraft number R flags)) (Answer.Refused k))) (sym seven)
      (takes_report s s' sane x f gives w aircraft number R flags reads (not-false mine near.0) (s.ends x) (only.0 ∙ rule.1) only.1 refl refl refl refl
      (Answer.Refused 7) (inr (7, refl)) (refl, (test_decides R flag S).refused astray.0, refl)))
      (λ past. never (let z = past.1 in let y : ◌≡◌ {A = ℕ} 0 1 = cc in y))
      (first_row (is_refused R flag S) fault.Number [] why near.1))
      (first_row (not mine) fault.Elsewhere ((is_refused R flag S, fault.Number) ∷ []) why rule.0)

  steps : (s s' : State) (event : Event) → Sane s → links.Step delay s s' event → Went s s' event
  steps s s' _ sane (links.Step.log_on x aircraft number small r e rule only channel) = logs_on s s' sane x aircraft number small r e rule only channel
  steps s s' _ sane (links.Step.accept x q octets r e rule only channel) = accepts s s' sane x q octets r e rule only channel
  steps s s' _ sane (links.Step.slot slot rule moves) = ticks s s' sane slot rule moves
  steps s s' _ sane (links.Step.slot_refused slot x fault rule same) =
      quiet s s' Event.Quiet sane (λ e. ap (λ (v : State). v.ends e) same) (ap (λ (v : State). v.channel.clock) same)
      (same_lanes s.channel s'.channel (ap (λ (v : State). v.channel) same)) (inl refl)
  steps s s' _ sane (links.Step.send x room r e rule only puts) = sends s s' sane x room r e rule only puts
  steps s s' _ sane (links.Step.report x room r e rule only puts) = reports s s' sane x room r e rule only puts
  steps s s' _ sane (links.Step.take_none x same gives) = quiet s s' Event.Quiet sane same gives.clock gives.lanes (inl refl)
  steps s s' _ sane (links.Step.take x f room r e gives b only) = takes s s' sane x f room b.0 r e gives b.1 b.2 only

  reached : (s : State) (log : Log) → links.Reached delay s log → Sane s × world.Reached Sender runs.rules delay (world_of s) log
  reached _ _ (links.Reached.begun s fresh clock lanes) = (
    record {
      clocks = λ e. ap (λ (v : rules.End). v.clock) (fresh e) ∙ sym clock;
      numbers = λ e. subst (λ (v : rules.End). v.log_on < 2 ^ 32) (sym (fresh e)) (omega arith);
      tidy = λ e. subst (λ (v : rules.End). halves.Brought v.receives) (sym (fresh e)) halves.Brought.start;
    },
    world.Reached.begun (world_of s) clock
        (λ e. (ap held (fresh e), ap (λ (v : rules.End). v.sends) (fresh e), ap (λ (v : rules.End). v.receives) (fresh e)))
        (λ e. ap (map (wire e)) (lanes e)),
  )
  reached _ _ (links.Reached.went {s = s} {log = log} run s' event step) =
      let r = reached s log run in
      let w = steps s s' event r.0 step in
      (w.1, world.Reached.went r.1 (world_of s') (entry s' event) w.0 (shows s' event))

pub link_keeps_laws : LinkKeepsLaws
link_keeps_laws delay small s log run = runs_keep_laws delay small (world_of s) log (reached delay s log run).1
