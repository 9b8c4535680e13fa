-- A number on its way that keeps the BDU of a packet that expired: a packet is confirmed that was never sent.
use Rattle.std.proofs.Common.{[], ◌∷◌, refl, inl, arith}
use Rattle.rules.specs.declared.window.BduKey.{BduKey}
use Rattle.rules.specs.Receiving.{Bdu}
use Rattle.rules.specs.Sending.{heard}
use Rattle.rules.specs.Choice.{chosen}
use Rattle.law.specs.LinkRuns.{flag, Hears}
use Rattle.law.specs.Needed.{delays, TicksBy, slotted_kept, KeepsItsBdu}
use Rattle.law.proofs.NeededSteps.{State, Way, Is, worldly, ready, begins, accept, accepts, bdu, send, sends, take, takes, report, reports, hear, hears, tick, ticks, no_flags, taken, uncredited}

abbrev way : Way
way = record { hears = Hears; ticks = TicksBy slotted_kept; delay = delays 0 0 }

abbrev key : BduKey
key = record { q = 0; rn = 0; bsn = 0 }

-- in slot 0 the ground accepts a packet; in slot 73 it sends it under number 0, and the air hands it up
abbrev s1 : State
s1 = accept 0 0 (65 ∷ []) ready

abbrev s2 : State
s2 = tick 73 (slotted_kept 73 s1.half) s1

abbrev s3 : State
s3 = send key s2

abbrev only : Bdu
only = bdu key s2

abbrev s4 : State
s4 = take 0 only s3

-- in slot 74 it expires, with no report, and in slot 149 its reference number is free; after three others another packet has it
abbrev s5 : State
s5 = tick 74 (slotted_kept 74 s4.half) s4

abbrev s6 : State
s6 = tick 149 (slotted_kept 149 s5.half) s5

abbrev s7 : State
s7 = accept 0 1 (67 ∷ []) s6

abbrev s8 : State
s8 = accept 0 2 (67 ∷ []) s7

abbrev s9 : State
s9 = accept 0 3 (67 ∷ []) s8

abbrev s10 : State
s10 = accept 0 0 (66 ∷ []) s9

-- the air's report tells of number 0
abbrev s11 : State
s11 = report s10

abbrev s12 : State
s12 = hear (heard 1 (flag no_flags) 149 s11.half) ((0, 0) ∷ []) s11

r3 : Is way s3
unfolding chosen
r3 =
    sends way s2 key
    (ticks way s1 73 (slotted_kept 73 s1.half)
    (accepts way ready 0 0 (65 ∷ []) (begins way) (omega arith) (omega arith) (omega arith) (omega arith) refl)
    (omega arith) (record { half = refl; count = refl }) (record { half = refl; count = refl }) refl)
    refl (omega arith) (omega arith)

r5 : Is way s5
r5 =
    ticks way s4 74 (slotted_kept 74 s4.half) (takes way s3 0 only 73 r3 (inl refl) (omega arith)) (omega arith) (record { half = refl; count = refl }) (record { half = refl; count = refl }) refl

r6 : Is way s6
r6 = ticks way s5 149 (slotted_kept 149 s5.half) r5 (omega arith) (record { half = refl; count = refl }) (record { half = refl; count = refl }) refl

r9 : Is way s9
r9 =
    accepts way s8 0 3 (67 ∷ [])
    (accepts way s7 0 2 (67 ∷ []) (accepts way s6 0 1 (67 ∷ []) r6 (omega arith) (omega arith) (omega arith) (omega arith) refl) (omega arith) (omega arith) (omega arith) (omega arith) refl)
    (omega arith) (omega arith) (omega arith) (omega arith) refl

r11 : Is way s11
r11 = reports way s10 (accepts way s9 0 0 (66 ∷ []) r9 (omega arith) (omega arith) (omega arith) (omega arith) refl)

r12 : Is way s12
r12 =
    hears way s11 1 no_flags 149 (heard 1 (flag no_flags) 149 s11.half) ((0, 0) ∷ []) r11 (inl refl) (omega arith)
    (record { taken = taken 1 s11.half (omega arith) (λ l. refl); packets = refl; half = refl; count = refl })

pub keeps_its_bdu : KeepsItsBdu
keeps_its_bdu = (worldly s12, s12.log, r12, uncredited 0 0 (66 ∷ []) _ (_ ∷ []) _ _ ((_, _, refl, inl refl), refl) (refl, refl) refl)
