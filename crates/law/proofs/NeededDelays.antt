-- Delays of one slot on each lane: a packet is confirmed that was never handed up.
use Rattle.std.proofs.Common.{ℕ, [], ◌∷◌, refl, inl, arith}
use Rattle.rules.specs.declared.window.BduKey.{BduKey}
use Rattle.rules.specs.Receiving.{Bdu}
use Rattle.rules.specs.Sending.{heard, slotted}
use Rattle.rules.specs.Choice.{chosen}
use Rattle.law.specs.LinkRuns.{flag, Hears, Ticks}
use Rattle.law.specs.Needed.{delays, DelaysTwo}
use Rattle.law.proofs.NeededSteps.{State, Way, Is, worldly, ready, begins, accept, accepts, bdu, send, sends, take, takes, report, reports, hear, hears, tick, ticks, no_flags, taken, uncredited}

abbrev way : Way
way = record { hears = Hears; ticks = Ticks; delay = delays 1 1 }

abbrev key : ℕ → BduKey
key q = record { q = q; rn = 0; bsn = 0 }

-- in slot 10 the ground accepts a packet and sends it under number 0
abbrev s1 : State
s1 = tick 10 (slotted 10 ready.half) ready

abbrev s2 : State
s2 = accept 0 0 (65 ∷ []) s1

abbrev s3 : State
s3 = send (key 0) s2

-- in slot 11 the air reports, and only then is brought the frame
abbrev s4 : State
s4 = tick 11 (slotted 11 s3.half) s3

abbrev s5 : State
s5 = report s4

abbrev first : Bdu
first = bdu (key 0) s2

abbrev s6 : State
s6 = take 0 first s5

-- in slot 12 the ground is brought the report, which returns number 0
abbrev s7 : State
s7 = tick 12 (slotted 12 s6.half) s6

abbrev s8 : State
s8 = hear (heard 0 (flag no_flags) 12 s7.half) [] s7

-- another packet goes under number 0, which the air does not await
abbrev s9 : State
s9 = accept 3 0 (66 ∷ []) s8

abbrev s10 : State
s10 = send (key 3) s9

abbrev second : Bdu
second = bdu (key 3) s9

abbrev s11 : State
s11 = take 0 second s10

-- the air's next report tells of number 0
abbrev s12 : State
s12 = report s11

abbrev s13 : State
s13 = hear (heard 1 (flag no_flags) 12 s12.half) ((3, 0) ∷ []) s12

r1 : Is way s1
r1 = ticks way ready 10 (slotted 10 ready.half) (begins way) (omega arith) (record { half = refl; count = refl }) (record { half = refl; count = refl }) refl

r3 : Is way s3
unfolding chosen
r3 = sends way s2 (key 0) (accepts way s1 0 0 (65 ∷ []) r1 (omega arith) (omega arith) (omega arith) (omega arith) refl) refl (omega arith) (omega arith)

r6 : Is way s6
r6 =
    takes way s5 0 first 10
    (reports way s4 (ticks way s3 11 (slotted 11 s3.half) r3 (omega arith) (record { half = refl; count = refl }) (record { half = refl; count = refl }) refl))
    (inl refl) (omega arith)

r7 : Is way s7
r7 = ticks way s6 12 (slotted 12 s6.half) r6 (omega arith) (record { half = refl; count = refl }) (record { half = refl; count = refl }) refl

r8 : Is way s8
r8 =
    hears way s7 0 no_flags 11 (heard 0 (flag no_flags) 12 s7.half) [] r7 (inl refl) (omega arith)
    (record { taken = taken 0 s7.half (omega arith) (λ l. refl); packets = refl; half = refl; count = refl })

r10 : Is way s10
unfolding chosen
r10 = sends way s9 (key 3) (accepts way s8 3 0 (66 ∷ []) r8 (omega arith) (omega arith) (omega arith) (omega arith) refl) refl (omega arith) (omega arith)

r12 : Is way s12
r12 = reports way s11 (takes way s10 0 second 12 r10 (inl refl) (omega arith))

r13 : Is way s13
r13 =
    hears way s12 1 no_flags 12 (heard 1 (flag no_flags) 12 s12.half) ((3, 0) ∷ []) r12 (inl refl) (omega arith)
    (record { taken = taken 1 s12.half (omega arith) (λ l. refl); packets = refl; half = refl; count = refl })

pub delays_two : DelaysTwo
delays_two = (worldly s13, s13.log, r13, uncredited 3 0 (66 ∷ []) _ (_ ∷ _ ∷ _ ∷ []) _ _ ((_, _, refl, inl refl), refl) (refl, refl) refl)
