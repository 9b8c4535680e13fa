-- A number that is returned one slot after its sending: a packet is confirmed that was never handed up.
use Rattle.std.proofs.Common.{ℕ, [], ◌∷◌, refl, inl, arith}
use Rattle.rules.specs.declared.window.BduKey.{BduKey}
use Rattle.rules.specs.Receiving.{Bdu}
use Rattle.rules.specs.Sending.{heard, slotted}
use Rattle.rules.specs.Choice.{chosen}
use Rattle.law.specs.LinkRuns.{flag, Ticks}
use Rattle.law.specs.Needed.{delays, hears_early, ReturnedAfterOne}
use Rattle.law.proofs.NeededSteps.{State, Way, Is, worldly, ready, begins, accept, accepts, bdu, send, sends, take, takes, report, reports, hear, hears, tick, ticks, no_flags, taken, uncredited}

abbrev way : Way
way = record { hears = hears_early; ticks = Ticks; delay = delays 1 0 }

abbrev key : ℕ → BduKey
key q = record { q = q; rn = 0; bsn = 0 }

-- in slot 10 the ground accepts a packet and sends it under number 0
abbrev s1 : State
s1 = tick 10 (slotted 10 ready.half) ready

abbrev s2 : State
s2 = accept 0 0 (65 ∷ []) s1

abbrev s3 : State
s3 = send (key 0) s2

-- in slot 11 the air reports, and the ground is brought the report, which returns number 0
abbrev s4 : State
s4 = tick 11 (slotted 11 s3.half) s3

abbrev s5 : State
s5 = report s4

abbrev s6 : State
s6 = hear (heard 0 (flag no_flags) 12 s5.half) [] s5

-- only then is the air brought the frame
abbrev first : Bdu
first = bdu (key 0) s2

abbrev s7 : State
s7 = take 0 first s6

-- another packet goes under number 0, which the air does not await
abbrev s8 : State
s8 = accept 3 0 (66 ∷ []) s7

abbrev s9 : State
s9 = send (key 3) s8

abbrev second : Bdu
second = bdu (key 3) s8

abbrev s10 : State
s10 = take 0 second s9

-- the air's next report tells of number 0
abbrev s11 : State
s11 = report s10

abbrev s12 : State
s12 = hear (heard 1 (flag no_flags) 12 s11.half) ((3, 0) ∷ []) s11

r3 : Is way s3
unfolding chosen
r3 =
    sends way s2 (key 0)
    (accepts way s1 0 0 (65 ∷ [])
    (ticks way ready 10 (slotted 10 ready.half) (begins way) (omega arith) (record { half = refl; count = refl }) (record { half = refl; count = refl }) refl)
    (omega arith) (omega arith) (omega arith) (omega arith) refl)
    refl (omega arith) (omega arith)

r5 : Is way s5
r5 = reports way s4 (ticks way s3 11 (slotted 11 s3.half) r3 (omega arith) (record { half = refl; count = refl }) (record { half = refl; count = refl }) refl)

r6 : Is way s6
r6 =
    hears way s5 0 no_flags 11 (heard 0 (flag no_flags) 12 s5.half) [] r5 (inl refl) (omega arith)
    (record { taken = taken 0 s5.half (omega arith) (λ l. refl); packets = refl; half = refl; count = refl })

r7 : Is way s7
r7 = takes way s6 0 first 10 r6 (inl refl) (omega arith)

r9 : Is way s9
unfolding chosen
r9 = sends way s8 (key 3) (accepts way s7 3 0 (66 ∷ []) r7 (omega arith) (omega arith) (omega arith) (omega arith) refl) refl (omega arith) (omega arith)

r11 : Is way s11
r11 = reports way s10 (takes way s9 0 second 11 r9 (inl refl) (omega arith))

r12 : Is way s12
r12 =
    hears way s11 1 no_flags 11 (heard 1 (flag no_flags) 12 s11.half) ((3, 0) ∷ []) r11 (inl refl) (omega arith)
    (record { taken = taken 1 s11.half (omega arith) (λ l. refl); packets = refl; half = refl; count = refl })

pub returned_after_one : ReturnedAfterOne
returned_after_one = (worldly s12, s12.log, r12, uncredited 3 0 (66 ∷ []) _ (_ ∷ _ ∷ _ ∷ []) _ _ ((_, _, refl, inl refl), refl) (refl, refl) refl)
