-- The run of the worked listing, step by step.
use Rattle.std.proofs.Common.{◌≡◌, ℕ, false, List, [], ◌∷◌, get_or, drop, replicate, Some, Ok, refl, subst, inl, arith}
use Rattle.frame.specs.declared.kind.Way.TheVariants.{Up}
use Rattle.frame.proofs.Octets.{data_back, report_back}
use Rattle.rules.proofs.Choice.{finds_next}
use Rattle.rules.specs.Choice.{chosen, Chosen}
use Rattle.rules.specs.Ends.{Reading, Brought, Sent, new}
use Rattle.rules.specs.Ends as rules
use Rattle.rules.specs.Receiving.{Bdu, Receiving}
use Rattle.rules.specs.Receiving as receiving
use Rattle.rules.specs.Sending.{Sending, accepted, sent, heard}
use Rattle.rules.specs.declared.window.BduKey.{BduKey}
use Rattle.law.specs.Log.{End}
use Rattle.law.specs.Channels.{Underway}
use Rattle.law.specs.Links.{State, Step, Reached}
use Rattle.law.specs.Listing.{ListingIsRun}
use Rattle.law.specs.Samples.{good}
use Rattle.law.proofs.Base.{never}
use Rattle.law.proofs.NeededSteps.{two}
use Rattle.law.proofs.Sides.{both}

abbrev state : ℕ → rules.End → rules.End → List Underway → List Underway → State
state c g a up down = record { ends = two g a; channel = record { clock = c; lane = two up down } }

abbrev still : End → ℕ
still e = 0

abbrev on : rules.End
on = rules.logged_on 5 1 new

abbrev ready : rules.End
ready = rules.moved_to 10 on

-- the packet is accepted, and its BDU sent
abbrev S1 : Sending
S1 = accepted 2 0 (65 ∷ []) 10 ready.sends

abbrev key : BduKey
key = record { q = 2; rn = 0; bsn = 0 }

abbrev S2 : Sending
S2 = sent key 0 10 S1

abbrev g1 : rules.End
g1 = rules.with_sends S1 ready

abbrev g2 : rules.End
g2 = rules.sent_one S2 g1

abbrev frame : Underway
frame = record { octets = 1 ∷ 5 ∷ 0 ∷ 0 ∷ 0 ∷ 1 ∷ 0 ∷ 32 ∷ 65 ∷ []; slot = 10 }

-- it is handed up, and a report tells of it
abbrev unit : Bdu
unit = record { q = 2; rn = 0; more = false; bsn = 0; octets = 65 ∷ [] }

abbrev a1 : rules.End
a1 = rules.with_receives (receiving.bring ready.receives 0 unit 10).1 ready

abbrev report : Underway
report = record { octets = 3 ∷ 5 ∷ 0 ∷ 0 ∷ 0 ∷ 1 ∷ 1 ∷ 0 ∷ []; slot = 10 }

abbrev g3 : rules.End
g3 = rules.with_sends (heard 1 (λ i. get_or (replicate 8 false) i false) 10 S2) g2

run0 : Reached still (state 0 new new [] []) []
run0 = Reached.begun _ (both _ refl refl) refl (both _ refl refl)

run1 : Reached still (state 0 on new [] []) (drop 7 good)
run1 = Reached.went run0 (state 0 on new [] []) _ (Step.log_on End.Ground 5 1 (omega arith) (Ok []) on (refl, (refl, refl)) (refl, refl) refl)

run2 : Reached still (state 0 on on [] []) (drop 6 good)
run2 = Reached.went run1 (state 0 on on [] []) _ (Step.log_on End.Air 5 1 (omega arith) (Ok []) on (refl, (refl, refl)) (refl, refl) refl)

run3 : Reached still (state 10 ready ready [] []) (drop 5 good)
run3 =
    Reached.went run2 (state 10 ready ready [] []) _
    (Step.slot 10 (both _ ([], (refl, (refl, refl))) ([], (refl, (refl, refl)))) (record { clock = refl; lanes = λ e f i. i }))

run4 : Reached still (state 10 g1 ready [] []) (drop 4 good)
run4 = Reached.went run3 (state 10 g1 ready [] []) _ (Step.accept End.Ground 2 (65 ∷ []) (Ok 0) g1 (refl, (refl, refl)) (refl, refl) refl)

next : chosen S1.packets 128 ≡ Some key
unfolding chosen
next = refl

run5 : Reached still (state 10 g2 ready (frame ∷ []) []) (drop 3 good)
run5 =
    Reached.went run4 (state 10 g2 ready (frame ∷ []) []) _
    (Step.send End.Ground 61 (Ok (Sent.Frame frame.octets)) g2 (
      refl,
      record {
        number = 0;
        bdu = key;
        more = false;
        payload = 65 ∷ [];
        after = S2;
        rule = (subst (Chosen S1) next (finds_next S1), (omega arith), (omega arith), refl, refl, refl, refl);
        written = refl;
        end = refl;
      },
    )
    (refl, refl)
    (record { clock = refl; own = λ f i. i; others = λ f i. i }))

run6 : Reached still (state 10 g2 a1 (frame ∷ []) []) (drop 2 good)
run6 =
    Reached.went run5 (state 10 g2 a1 (frame ∷ []) []) _
    (Step.take End.Air frame 424 (Ok (Brought.Packet 2 0 (65 ∷ []))) a1
    (record { clock = refl; was = inl refl; young = omega arith; lanes = λ e f i. i }) (
      Reading.Data Up 5 1 0 unit,
      data_back Up 5 1 0 (rules.bdu_header unit) (65 ∷ []) (omega arith) (omega arith) (omega arith)
          (record { rn_small = omega arith; q_small = omega arith; bsn_small = omega arith })
          (λ e. omega arith) (omega arith) (omega arith) (λ e. never (let z : ◌≡◌ {A = ℕ} 0 1 = cc in z)),
      (refl, (refl, refl)),
    )
    (refl, refl))

run7 : Reached still (state 10 g2 a1 (frame ∷ []) (report ∷ [])) (drop 1 good)
run7 =
    Reached.went run6 (state 10 g2 a1 (frame ∷ []) (report ∷ [])) _
    (Step.report End.Air 61 (Ok report.octets) a1 (refl, (refl, refl)) (refl, refl) (record { clock = refl; own = λ f i. i; others = λ f i. i }))

run8 : Reached still (state 10 g3 a1 (frame ∷ []) (report ∷ [])) good
run8 =
    Reached.went run7 (state 10 g3 a1 (frame ∷ []) (report ∷ [])) _
    (Step.take End.Ground report 424 (Ok (Brought.Confirmed ((2, 0) ∷ []))) g3
    (record { clock = refl; was = inl refl; young = omega arith; lanes = λ e f i. i })
    (Reading.Report Up 5 1 1 (replicate 8 false), (0, report_back Up 5 1 1 0 (omega arith) (omega arith) (omega arith), refl), (refl, (refl, refl)))
    (refl, refl))

pub listing_is_run : ListingIsRun
listing_is_run = (_, run8)
