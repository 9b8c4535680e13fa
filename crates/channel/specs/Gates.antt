-- The gates: what each call at a gate answers and leaves, by what the call of the channel below does.
use Rattle.std.specs.Prelude.{◌≡◌, ℕ, ◌%◌, Bool, true, false, List, ◌++◌, take, drop, get_or, replicate, Some, None, Option, Ok, Err, Result, nat_le, if◌then◌else◌}
use Rattle.rules.specs.Constants.{frame_room}
use Rattle.channel.specs.Channels.{SlotCall, PutCall, TakeCall, bad_frame, bad_buffer}
use Rattle.channel.specs.declared.channel.Lane.{Lane}
use Rattle.channel.specs.declared.channel.Taken.{Taken}
use Rattle.channel.specs.declared.fault.ChannelFault.{ChannelFault}
use Rattle.channel.specs.declared.fault.ChannelFault.TheVariants as fault
use Rattle.channel.specs.declared.fade.FadeGate.{FadeGate}
use Rattle.channel.specs.declared.age.AgeGate.{AgeGate}

-- ## the fade gate

-- a slot whose number modulo 13 is marked is a bad one
abbrev pub is_bad : List Bool → ℕ → Bool
is_bad marked slot = get_or marked (slot % 13) false

module _ {C : Type 0} where
  -- a slot is the slot below
  pub record FadeSlots (slots : SlotCall C) (g : FadeGate C) (slot : ℕ) (answer : Result (Unit {0}) ChannelFault) (g' : FadeGate C) : Type 0 where
    pub below : slots g.below slot answer g'.below
    pub marked : g'.marked ≡ g.marked

  -- a put in a bad slot is answered and leaves the channel below as it was; any other put, and one of too many octets, is the
  -- put below
  pub record FadePuts (clock : C → ℕ) (puts : PutCall C) (g : FadeGate C) (lane : Lane) (octets : List ℕ) (answer : Result (Unit {0}) ChannelFault) (g' : FadeGate C) : Type 0 where
    pub lost : is_bad g.marked (clock g.below) ≡ true → bad_frame octets ≡ false → (answer ≡ Ok tt) × (g'.below ≡ g.below)
    pub passed : is_bad g.marked (clock g.below) ≡ false → puts g.below lane octets answer g'.below
    pub refused : bad_frame octets ≡ true → puts g.below lane octets answer g'.below
    pub marked : g'.marked ≡ g.marked

  -- a take is the take below
  pub record FadeTakes (takes : TakeCall C) (g : FadeGate C) (lane : Lane) (buffer : List ℕ) (answer : Result (Option Taken) ChannelFault) (g' : FadeGate C) (after : List ℕ) : Type 0 where
    pub below : takes g.below lane buffer answer g'.below after
    pub marked : g'.marked ≡ g.marked

-- ## the age gate

-- a frame that was put in this slot
abbrev pub fresh : ℕ → Option Taken → Option Taken
fresh clock None = None
fresh clock (Some t) = if nat_le clock t.slot then Some t else None

-- the buffer, with the octets of a frame at its front
abbrev pub copied : Option Taken → List ℕ → List ℕ → List ℕ
copied None octets buffer = buffer
copied (Some t) octets buffer = take t.len octets ++ drop t.len buffer

module _ {C : Type 0} where
  -- a slot is the slot below
  abbrev pub AgeSlots : SlotCall C → SlotCall (AgeGate C)
  AgeSlots slots g slot answer g' = slots g.below slot answer g'.below

  -- a put is the put below
  abbrev pub AgePuts : PutCall C → PutCall (AgeGate C)
  AgePuts puts g lane octets answer g' = puts g.below lane octets answer g'.below

  -- a take lets the channel below take into 61 empty octets. It gives what that take gives if it was put in the clock's slot,
  -- and then the buffer has the octets too
  pub record Sifted (clock : C → ℕ) (takes : TakeCall C) (g : AgeGate C) (lane : Lane) (buffer : List ℕ) (taken : Option Taken) (g' : AgeGate C) (after : List ℕ) : Type 0 where
    pub given : Option Taken
    pub octets : List ℕ
    pub below : takes g.below lane (replicate frame_room 0) (Ok given) g'.below octets
    pub taken_is : taken ≡ fresh (clock g.below) given
    pub buffer_is : after ≡ copied (fresh (clock g.below) given) octets buffer

  -- it is refused if the buffer has fewer than 61 octets, and then nothing changes
  abbrev pub AgeTakes : (C → ℕ) → TakeCall C → TakeCall (AgeGate C)
  AgeTakes clock takes g lane buffer (Ok taken) g' after = (bad_buffer buffer ≡ false) × Sifted clock takes g lane buffer taken g' after
  AgeTakes clock takes g lane buffer (Err f) g' after = (bad_buffer buffer ≡ true) × (f ≡ fault.Buffer) × (g' ≡ g) × (after ≡ buffer)
