-- A reference number that is free as soon as its packet expires: octets of two packets are handed up as one.
use Rattle.std.proofs.Common.{ℕ, List, [], ◌∷◌, ◌++◌, get_or, replicate, refl, ap, inl, arith}
use Rattle.rules.specs.declared.window.BduKey.{BduKey}
use Rattle.rules.specs.Receiving.{Bdu}
use Rattle.rules.specs.Choice.{chosen}
use Rattle.law.specs.LinkRuns.{Hears}
use Rattle.law.specs.Needed.{delays, TicksBy, slotted_free, FreeAtExpiry}
use Rattle.law.proofs.NeededSteps.{State, Way, Is, worldly, ready, begins, accept, accepts, bdu, send, sends, take, takes, tick, ticks, garbled}

abbrev way : Way
way = record { hears = Hears; ticks = TicksBy slotted_free; delay = delays 0 0 }

abbrev key : ℕ → BduKey
key bsn = record { q = 0; rn = 0; bsn = bsn }

-- two packets of two BDUs each
abbrev old : List ℕ
old = replicate 54 65

abbrev young : List ℕ
young = replicate 54 66

-- in slot 0 the ground accepts the old one; in slot 73 it sends BDU 0 of it, which the air holds
abbrev s1 : State
s1 = accept 0 0 old ready

abbrev s2 : State
s2 = tick 73 (slotted_free 73 s1.half) s1

abbrev s3 : State
s3 = send (key 0) s2

abbrev held : Bdu
held = bdu (key 0) s2

abbrev s4 : State
s4 = take 0 held s3

-- in slot 74 it expires; after three others the young one has its reference number
abbrev s5 : State
s5 = tick 74 (slotted_free 74 s4.half) s4

abbrev s6 : State
s6 = accept 0 1 (67 ∷ []) s5

abbrev s7 : State
s7 = accept 0 2 (67 ∷ []) s6

abbrev s8 : State
s8 = accept 0 3 (67 ∷ []) s7

abbrev s9 : State
s9 = accept 0 0 young s8

-- its BDU 0 is lost, and its BDU 1 goes with BDU 0 of the old one
abbrev s10 : State
s10 = send (key 0) s9

abbrev s11 : State
s11 = send (key 1) s10

abbrev last : Bdu
last = bdu (key 1) s10

abbrev s12 : State
s12 = take 2 last s11

r3 : Is way s3
unfolding chosen
r3 =
    sends way s2 (key 0)
    (ticks way s1 73 (slotted_free 73 s1.half)
    (accepts way ready 0 0 old (begins way) (omega arith) (omega arith) (omega arith) (omega arith) refl)
    (omega arith) (record { half = refl; count = refl }) (record { half = refl; count = refl }) refl)
    refl (omega arith) (omega arith)

r5 : Is way s5
r5 =
    ticks way s4 74 (slotted_free 74 s4.half) (takes way s3 0 held 73 r3 (inl refl) (omega arith)) (omega arith) (record { half = refl; count = refl }) (record { half = refl; count = refl }) refl

r8 : Is way s8
r8 =
    accepts way s7 0 3 (67 ∷ [])
    (accepts way s6 0 2 (67 ∷ []) (accepts way s5 0 1 (67 ∷ []) r5 (omega arith) (omega arith) (omega arith) (omega arith) refl) (omega arith) (omega arith) (omega arith) (omega arith) refl)
    (omega arith) (omega arith) (omega arith) (omega arith) refl

r9 : Is way s9
r9 = accepts way s8 0 0 young r8 (omega arith) (omega arith) (omega arith) (omega arith) refl

r10 : Is way s10
unfolding chosen
r10 = sends way s9 (key 0) r9 refl (omega arith) (omega arith)

r11 : Is way s11
unfolding chosen
r11 = sends way s10 (key 1) r10 refl (omega arith) (omega arith)

r12 : Is way s12
r12 = takes way s11 2 last 74 r11 (inl refl) (omega arith)

pub free_at_expiry : FreeAtExpiry
free_at_expiry = (
  worldly s12,
  s12.log,
  r12,
  garbled 0 0 young (replicate 53 65 ++ 66 ∷ []) _ (_ ∷ _ ∷ []) _ _ ((_, refl), refl) (refl, refl) refl (λ e. let z = ap (λ l. get_or l 0 0) e in omega arith),
)
