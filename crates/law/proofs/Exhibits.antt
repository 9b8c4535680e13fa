-- The two runs of the exhibits, step by step.
use Rattle.std.proofs.Common.{◌≡◌, ℕ, ◌+◌, ◌<◌, ◌≤◌, Bool, true, false, cond, ltb, ◌⊎◌, List, [], ◌∷◌, map, length, drop, Some, refl, subst, inl, inr, arith}
use Rattle.frame.specs.Numbers.{advanced}
use Rattle.rules.specs.Constants.{a_slot, packet_room, window_size}
use Rattle.rules.specs.Receiving.{Bdu, Receiving, bring, slot}
use Rattle.rules.specs.Receiving as receiving
use Rattle.rules.specs.declared.window.BduKey.{BduKey}
use Rattle.rules.specs.Sending.{Sending, new, packet, place, pieces, piece, turn, passed, accepted, sent, opening, heard, confirmed, slotted}
use Rattle.rules.specs.Choice.{chosen, Chosen}
use Rattle.rules.specs.Reports.{is_refused}
use Rattle.rules.proofs.Choice.{finds_next}
use Rattle.rules.proofs.Refusing.{test_decides}
use Rattle.rules.specs.Members.{Among}
use Rattle.law.specs.Kept.{told}
use Rattle.law.specs.Log.{End, Frame, Answer, Event, Log}
use Rattle.law.specs.Samples.{on, off, entry}
use Rattle.law.specs.World.{Message, Wire, EndState, World}
use Rattle.law.specs.WorldSteps.{Step, Reached}
use Rattle.law.specs.LinkRuns.{Sender, flag, named, rules}
use Rattle.law.specs.Exhibits.{still, Run, first_of, none_of, front, long, short, report_of, frame_of, lost_log, expiry_log, LostAndSentAgain, ExpiresAndGivesAgain}
use Rattle.law.proofs.NeededSteps.{ended, world, show}
use Rattle.law.proofs.Sides.{both}

-- ## worlds

abbrev End' : Type 0
End' = EndState Sender

-- one step more, where the entry shows what the ends are
abbrev on_with : {W : World Sender} {log : Log} (c : ℕ) (event : Event) (g a : End') (up down : List Wire) → Run W log → Step Sender rules still W (world c g a up down) (entry c event (show g) (show a))
    → Run (world c g a up down) (entry c event (show g) (show a) ∷ log)
on_with c event g a up down r step =
    Reached.went r (world c g a up down) (entry c event (show g) (show a)) step (record {
      slot = refl;
      log_on = both _ refl refl;
      oldest = both _ refl refl;
      acknowledged = both _ refl refl;
      awaits = both _ refl refl;
      flags = both _ refl refl;
    })

-- ## the kinds of steps

-- the number that the ground sends the BDU b under, and the BDU as the frame brings it
abbrev number_of : Sending → ℕ
number_of S = advanced S.oldest (opening S)

abbrev bdu_of : Sending → BduKey → Bdu
bdu_of S b = record {
  q = b.q;
  rn = b.rn;
  more = ltb (b.bsn + 1) (pieces (packet S (place b)).octets);
  bsn = b.bsn;
  octets = piece (packet S (place b)).octets b.bsn;
}

abbrev octets_of : Sending → BduKey → List ℕ
octets_of S b = frame_of (number_of S) (record { rn = b.rn; q = b.q; more = (bdu_of S b).more; bsn = b.bsn }) (bdu_of S b).octets

abbrev data_wire : ℕ → Sending → BduKey → Wire
data_wire c S b = record { message = Message.DataFrame on (number_of S) (bdu_of S b); slot = c }

-- a report of the air
abbrev report_wire : ℕ → Receiving → Wire
report_wire c V = record { message = Message.ReportFrame on V.oldest V.flags; slot = c }

-- an end of the slot c in a later one
abbrev aged : ℕ → ℕ → End' → End'
aged c d x = ended x.log_on (slotted d x.sender.half) (cond (ltb c d) 0 x.sender.count) (slot d x.receiver)

module _ {c : ℕ} {log : Log} where
  -- the ground accepts a packet
  abbrev accepts : {S : Sending} {n : ℕ} {V : Receiving} {a : End'} {up down : List Wire} (q rn : ℕ) (octets : List ℕ) → Run (world c (ended on S n V) a up down) log
      → q < 4 → 1 ≤ length octets → length octets ≤ packet_room → passed S q < 4 → rn ≡ turn S q (passed S q)
      → Run (world c (ended on (accepted q rn octets c S) n V) a up down) (entry c (Event.Accepted End.Ground q rn octets) (show (ended on (accepted q rn octets c S) n V)) (show a) ∷ log)
  accepts {S = S} {n = n} {V = V} {a = a} {up = up} {down = down} q rn octets r small some most free is =
      on_with c (Event.Accepted End.Ground q rn octets) (ended on (accepted q rn octets c S) n V) a up down r
      (Step.accept End.Ground (record {
        q = q;
        rn = rn;
        octets = octets;
        event = refl;
        rule = record { priority = small; some = some; most = most; free = free; turn = is; half = refl; count = refl };
        log_on = refl;
        receiver = refl;
        same = refl;
        clock = refl;
        lanes = λ e w i. i;
      }))

  -- the ground sends the BDU that the search finds; its lane then has the frames up', which may lack it
  abbrev sends : {S : Sending} {n : ℕ} {V : Receiving} {a : End'} {up down : List Wire} (b : BduKey) (up' : List Wire) → Run (world c (ended on S n V) a up down) log
      → chosen S.packets 128 ≡ Some b → n < a_slot → opening S < window_size → ((w : Wire) → Among w up' → (w ≡ data_wire c S b) ⊎ Among w up)
      → Run (world c (ended on (sent b (opening S) c S) (n + 1) V) a up' down)
      (entry c (Event.Sent End.Ground (octets_of S b)) (show (ended on (sent b (opening S) c S) (n + 1) V)) (show a) ∷ log)
  sends {S = S} {n = n} {V = V} {a = a} {up = up} {down = down} b up' r is few room own =
      on_with c (Event.Sent End.Ground (octets_of S b)) (ended on (sent b (opening S) c S) (n + 1) V) a up' down r
      (Step.send End.Ground (record {
        octets = octets_of S b;
        event = refl;
        number = number_of S;
        bdu = bdu_of S b;
        rule = record { half = (subst (Chosen S) is (finds_next S), few, room, refl, refl, refl, refl); count = refl };
        log_on = refl;
        receiver = refl;
        same = refl;
        clock = refl;
        own = own;
        others = λ w i. i;
      }))

  -- the air is brought data
  abbrev lands : {g : End'} {S : Sending} {n : ℕ} {V : Receiving} {up down : List Wire} (number : ℕ) (bdu : Bdu) → Run (world c g (ended on S n V) up down) log
      → Among (record { message = Message.DataFrame on number bdu; slot = c }) up
      → Run (world c g (ended on S n (bring V number bdu c).1) up down)
      (entry c (Event.Brought End.Air (Frame.Data on) (told (bring V number bdu c).0)) (show g) (show (ended on S n (bring V number bdu c).1)) ∷ log)
  lands {g = g} {S = S} {n = n} {V = V} {up = up} {down = down} number bdu r underway =
      on_with c (Event.Brought End.Air (Frame.Data on) (told (bring V number bdu c).0)) g (ended on S n (bring V number bdu c).1) up down r
      (Step.take_data End.Air (record {
        wire = record { message = Message.DataFrame on number bdu; slot = c };
        number = number;
        bdu = bdu;
        underway = underway;
        message = refl;
        timely = omega arith;
        event = refl;
        receiver = refl;
        log_on = refl;
        sender = refl;
        same = refl;
        clock = refl;
        lanes = λ e w i. i;
      }))

  -- the air reports
  abbrev reports : {g : End'} {S : Sending} {n : ℕ} {V : Receiving} {up down : List Wire} → Run (world c g (ended on S n V) up down) log
      → Run (world c g (ended on S n V) up (report_wire c V ∷ down)) (entry c (Event.Reported End.Air (report_of V.oldest V.flags)) (show g) (show (ended on S n V)) ∷ log)
  reports {g = g} {S = S} {n = n} {V = V} {up = up} {down = down} r =
      on_with c (Event.Reported End.Air (report_of V.oldest V.flags)) g (ended on S n V) up (report_wire c V ∷ down) r
      (Step.report End.Air (record { octets = report_of V.oldest V.flags; event = refl; same = both _ refl refl; clock = refl; own = λ w i. i; others = λ w i. i }))

  -- the ground is brought a report that is not refused
  abbrev hears : {S : Sending} {n : ℕ} {V : Receiving} {a : End'} {up down : List Wire} (R : ℕ) (flags : List Bool) → Run (world c (ended on S n V) a up down) log
      → Among (record { message = Message.ReportFrame on R flags; slot = c }) down → is_refused R (flag flags) S ≡ false
      → Run (world c (ended on (heard R (flag flags) c S) n V) a up down)
      (entry c (Event.Brought End.Ground (Frame.Report on) (Answer.Confirmed (map named (confirmed R (flag flags) c S)))) (show (ended on (heard R (flag flags) c S) n V)) (show a) ∷ log)
  hears {S = S} {n = n} {V = V} {a = a} {up = up} {down = down} R flags r underway good =
      on_with c (Event.Brought End.Ground (Frame.Report on) (Answer.Confirmed (map named (confirmed R (flag flags) c S)))) (ended on (heard R (flag flags) c S) n V) a up down r
      (Step.take_report End.Ground (record {
        wire = record { message = Message.ReportFrame on R flags; slot = c };
        number = R;
        flags = flags;
        answer = Answer.Confirmed (map named (confirmed R (flag flags) c S));
        kind = inl (_, refl);
        underway = underway;
        message = refl;
        timely = omega arith;
        event = refl;
        rule = record { taken = (test_decides R (flag flags) S).taken good; packets = refl; half = refl; count = refl };
        log_on = refl;
        receiver = refl;
        same = refl;
        clock = refl;
        lanes = λ e w i. i;
      }))

  -- a slot begins; what was underway is lost
  abbrev ticks : {g a : End'} {up down : List Wire} (d : ℕ) → Run (world c g a up down) log → c ≤ d
      → Run (world d (aged c d g) (aged c d a) [] []) (entry d Event.Ticked (show (aged c d g)) (show (aged c d a)) ∷ log)
  ticks {g = g} {a = a} {up = up} {down = down} d r later =
      on_with d Event.Ticked (aged c d g) (aged c d a) [] [] r
      (Step.tick (record {
        event = refl;
        later = later;
        log_on = both _ refl refl;
        sender = both _ (record { half = refl; count = refl }) (record { half = refl; count = refl });
        receiver = both _ refl refl;
        lanes = both _ (λ w i. absurd i) (λ w i. absurd i);
      }))

-- ## both ends log on

abbrev e0 : End'
e0 = ended off new 0 receiving.new

abbrev e1 : End'
e1 = ended on new 0 receiving.new

abbrev ready : Run (world 0 e1 e1 [] []) (drop 15 lost_log)
ready =
    on_with 0 (Event.LoggedOn End.Air) e1 e1 [] []
    (on_with 0 (Event.LoggedOn End.Ground) e1 e0 [] []
    (Reached.begun (world 0 e0 e0 [] []) refl (both _ (refl, refl, refl) (refl, refl, refl)) (both _ refl refl))
    (Step.log_on End.Ground (record { to = on; event = refl; greater = omega arith; now = refl; sender = refl; receiver = refl; same = refl; clock = refl; lanes = λ e w i. i })))
    (Step.log_on End.Air (record { to = on; event = refl; greater = omega arith; now = refl; sender = refl; receiver = refl; same = refl; clock = refl; lanes = λ e w i. i }))

-- ## the run with the lost BDU

abbrev key : ℕ → ℕ → BduKey
key q bsn = record { q = q; rn = 0; bsn = bsn }

-- the ground's half: the long packet accepted, each of its BDUs sent; the first report heard; the short packet accepted and sent, BDU 0 sent again; the second report heard
abbrev S1 : Sending
S1 = accepted 2 0 long 10 new

abbrev S2 : Sending
S2 = sent (key 2 0) 0 10 S1

abbrev S3 : Sending
S3 = sent (key 2 1) 1 10 S2

abbrev S4 : Sending
S4 = heard 0 (flag first_of) 12 S3

abbrev S5 : Sending
S5 = accepted 3 0 short 12 S4

abbrev S6 : Sending
S6 = sent (key 3 0) 0 12 S5

abbrev S7 : Sending
S7 = sent (key 2 0) 2 12 S6

abbrev S8 : Sending
S8 = heard 3 (flag none_of) 12 S7

-- the BDUs as the frames bring them
abbrev front_bdu : Bdu
front_bdu = record { q = 2; rn = 0; more = true; bsn = 0; octets = front }

abbrev back_bdu : Bdu
back_bdu = record { q = 2; rn = 0; more = false; bsn = 1; octets = 66 ∷ [] }

abbrev short_bdu : Bdu
short_bdu = record { q = 3; rn = 0; more = false; bsn = 0; octets = short }

abbrev wire : ℕ → ℕ → Bdu → Wire
wire c number bdu = record { message = Message.DataFrame on number bdu; slot = c }

-- the air's half: BDU 1 held; the short packet handed up; the long packet handed up
abbrev V1 : Receiving
V1 = (bring receiving.new 1 back_bdu 10).1

abbrev V2 : Receiving
V2 = (bring V1 0 short_bdu 12).1

abbrev V3 : Receiving
V3 = (bring V2 2 front_bdu 12).1

-- the ground, and the air
abbrev ground : Sending → ℕ → End'
ground S n = ended on S n receiving.new

abbrev air : Receiving → End'
air V = ended on new 0 V

abbrev step1 : Run (world 10 e1 e1 [] []) (drop 14 lost_log)
step1 = ticks 10 ready (omega arith)

abbrev step2 : Run (world 10 (ground S1 0) e1 [] []) (drop 13 lost_log)
step2 = accepts 2 0 long step1 (omega arith) (omega arith) (omega arith) (omega arith) refl

step3_next : chosen S1.packets 128 ≡ Some (key 2 0)
unfolding chosen
step3_next = refl

-- the frame is lost at once
abbrev step3 : Run (world 10 (ground S2 1) e1 [] []) (drop 12 lost_log)
step3 = sends (key 2 0) [] step2 step3_next (omega arith) (omega arith) (λ w i. absurd i)

step4_next : chosen S2.packets 128 ≡ Some (key 2 1)
unfolding chosen
step4_next = refl

abbrev step4 : Run (world 10 (ground S3 2) e1 (wire 10 1 back_bdu ∷ []) []) (drop 11 lost_log)
step4 = sends (key 2 1) (wire 10 1 back_bdu ∷ []) step3 step4_next (omega arith) (omega arith) (λ w i. i)

abbrev step5 : Run (world 10 (ground S3 2) (air V1) (wire 10 1 back_bdu ∷ []) []) (drop 10 lost_log)
step5 = lands 1 back_bdu step4 (inl refl)

abbrev step6 : Run (world 12 (ground S3 0) (air V1) [] []) (drop 9 lost_log)
step6 = ticks 12 step5 (omega arith)

abbrev step7 : Run (world 12 (ground S3 0) (air V1) [] (report_wire 12 V1 ∷ [])) (drop 8 lost_log)
step7 = reports step6

abbrev step8 : Run (world 12 (ground S4 0) (air V1) [] (report_wire 12 V1 ∷ [])) (drop 7 lost_log)
step8 = hears 0 first_of step7 (inl refl) refl

abbrev step9 : Run (world 12 (ground S5 0) (air V1) [] (report_wire 12 V1 ∷ [])) (drop 6 lost_log)
step9 = accepts 3 0 short step8 (omega arith) (omega arith) (omega arith) (omega arith) refl

step10_next : chosen S5.packets 128 ≡ Some (key 3 0)
unfolding chosen
step10_next = refl

abbrev step10 : Run (world 12 (ground S6 1) (air V1) (wire 12 0 short_bdu ∷ []) (report_wire 12 V1 ∷ [])) (drop 5 lost_log)
step10 = sends (key 3 0) (wire 12 0 short_bdu ∷ []) step9 step10_next (omega arith) (omega arith) (λ w i. i)

abbrev both_wires : List Wire
both_wires = wire 12 2 front_bdu ∷ wire 12 0 short_bdu ∷ []

step11_next : chosen S6.packets 128 ≡ Some (key 2 0)
unfolding chosen
step11_next = refl

abbrev step11 : Run (world 12 (ground S7 2) (air V1) both_wires (report_wire 12 V1 ∷ [])) (drop 4 lost_log)
step11 = sends (key 2 0) both_wires step10 step11_next (omega arith) (omega arith) (λ w i. i)

abbrev step12 : Run (world 12 (ground S7 2) (air V2) both_wires (report_wire 12 V1 ∷ [])) (drop 3 lost_log)
step12 = lands 0 short_bdu step11 (inr (inl refl))

abbrev step13 : Run (world 12 (ground S7 2) (air V3) both_wires (report_wire 12 V1 ∷ [])) (drop 2 lost_log)
step13 = lands 2 front_bdu step12 (inl refl)

abbrev step14 : Run (world 12 (ground S7 2) (air V3) both_wires (report_wire 12 V3 ∷ report_wire 12 V1 ∷ [])) (drop 1 lost_log)
step14 = reports step13

abbrev step15 : Run (world 12 (ground S8 2) (air V3) both_wires (report_wire 12 V3 ∷ report_wire 12 V1 ∷ [])) lost_log
step15 = hears 3 none_of step14 (inl refl) refl

pub lost_and_sent_again : LostAndSentAgain
lost_and_sent_again = record {
  world = world 12 (ground S8 2) (air V3) both_wires (report_wire 12 V3 ∷ report_wire 12 V1 ∷ []);
  run = step15;
  accepted = (_, inr (inr (inr (inr (inr (inr (inr (inr (inr (inr (inr (inr (inr (inl refl))))))))))))), (refl, (refl, refl)));
  sent = (_, inr (inr (inr (inr (inr (inr (inr (inr (inr (inr (inr (inr (inl refl)))))))))))), (refl, refl));
  lost = inr (inr (inr (inr (inr (inr (inr (inr (inr (inr (inr (inr (inl (refl, refl)))))))))))));
  sent_again = (_, inr (inr (inr (inr (inl refl)))), (refl, refl));
  handed_up = (_, inr (inr (inl refl)), ((_, refl), refl));
  confirmed = (_, inl refl, ((_, _, refl, inl refl), refl));
}

-- ## the run with the packet that expires

-- the ground's half: the packet accepted, and sent; in slot 174 it expired; three more accepted; in slot 249 its reference number is free, and given again
abbrev T1 : Sending
T1 = accepted 1 0 (65 ∷ []) 100 new

abbrev T2 : Sending
T2 = sent (key 1 0) 0 100 T1

abbrev T3 : Sending
T3 = slotted 174 T2

abbrev T4 : Sending
T4 = accepted 1 1 (66 ∷ []) 174 T3

abbrev T5 : Sending
T5 = accepted 1 2 (67 ∷ []) 174 T4

abbrev T6 : Sending
T6 = accepted 1 3 (68 ∷ []) 174 T5

abbrev T7 : Sending
T7 = slotted 248 T6

abbrev T8 : Sending
T8 = slotted 249 T7

abbrev T9 : Sending
T9 = accepted 1 0 (69 ∷ []) 249 T8

abbrev turn1 : Run (world 100 e1 e1 [] []) (drop 10 expiry_log)
turn1 = ticks 100 ready (omega arith)

abbrev turn2 : Run (world 100 (ground T1 0) e1 [] []) (drop 9 expiry_log)
turn2 = accepts 1 0 (65 ∷ []) turn1 (omega arith) (omega arith) (omega arith) (omega arith) refl

turn3_next : chosen T1.packets 128 ≡ Some (key 1 0)
unfolding chosen
turn3_next = refl

-- the frame is lost at once
abbrev turn3 : Run (world 100 (ground T2 1) e1 [] []) (drop 8 expiry_log)
turn3 = sends (key 1 0) [] turn2 turn3_next (omega arith) (omega arith) (λ w i. absurd i)

abbrev turn4 : Run (world 173 (ground T2 0) e1 [] []) (drop 7 expiry_log)
turn4 = ticks 173 turn3 (omega arith)

abbrev turn5 : Run (world 174 (ground T3 0) e1 [] []) (drop 6 expiry_log)
turn5 = ticks 174 turn4 (omega arith)

abbrev turn6 : Run (world 174 (ground T4 0) e1 [] []) (drop 5 expiry_log)
turn6 = accepts 1 1 (66 ∷ []) turn5 (omega arith) (omega arith) (omega arith) (omega arith) refl

abbrev turn7 : Run (world 174 (ground T5 0) e1 [] []) (drop 4 expiry_log)
turn7 = accepts 1 2 (67 ∷ []) turn6 (omega arith) (omega arith) (omega arith) (omega arith) refl

abbrev turn8 : Run (world 174 (ground T6 0) e1 [] []) (drop 3 expiry_log)
turn8 = accepts 1 3 (68 ∷ []) turn7 (omega arith) (omega arith) (omega arith) (omega arith) refl

abbrev turn9 : Run (world 248 (ground T7 0) e1 [] []) (drop 2 expiry_log)
turn9 = ticks 248 turn8 (omega arith)

abbrev turn10 : Run (world 249 (ground T8 0) e1 [] []) (drop 1 expiry_log)
turn10 = ticks 249 turn9 (omega arith)

abbrev turn11 : Run (world 249 (ground T9 0) e1 [] []) expiry_log
turn11 = accepts 1 0 (69 ∷ []) turn10 (omega arith) (omega arith) (omega arith) (omega arith) refl

pub expires_and_gives_again : ExpiresAndGivesAgain
expires_and_gives_again = record {
  world = world 249 (ground T9 0) e1 [] [];
  run = turn11;
  accepted = (_, inr (inr (inr (inr (inr (inr (inr (inr (inr (inl refl))))))))), (refl, (refl, refl)));
  sent = (_, inr (inr (inr (inr (inr (inr (inr (inr (inl refl)))))))), (refl, refl));
  lost = inr (inr (inr (inr (inr (inr (inr (inr (inl (refl, refl)))))))));
  expires = inr (inr (inr (inr (inr (inr (inr (inl (refl, (refl, refl)))))))));
  none_free = inr (inr (inl (refl, refl)));
  accepted_again = (_, inl refl, (refl, (refl, refl)));
}
