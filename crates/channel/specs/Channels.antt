-- What a channel means: its clock, and the frames underway on each lane; and what each call may make of them.
use Rattle.std.specs.Prelude.{◌≡◌, ℕ, ◌+◌, ◌≤◌, ◌⊎◌, ◌||◌, Bool, true, false, List, ◌++◌, length, drop, Some, None, Option, Ok, Err, Result, nat_lt}
use Rattle.rules.specs.Constants.{last_slot, frame_room}
use Rattle.rules.specs.Members.{Among}
use Rattle.channel.specs.declared.channel.Lane.{Lane}
use Rattle.channel.specs.declared.channel.Lane.TheVariants.{ToAircraft, ToGround}
use Rattle.channel.specs.declared.channel.Taken.{Taken}
use Rattle.channel.specs.declared.fault.ChannelFault.{ChannelFault}
use Rattle.channel.specs.declared.fault.ChannelFault.TheVariants as fault

-- a frame underway: its octets, and the slot of its put
abbrev pub Underway : Type 0
Underway = List ℕ × ℕ

-- one of two, by the lane
abbrev pub by_lane : {A : Type 0} → A → A → Lane → A
by_lane to_aircraft to_ground ToAircraft = to_aircraft
by_lane to_aircraft to_ground ToGround = to_ground

abbrev pub opposite : Lane → Lane
opposite ToAircraft = ToGround
opposite ToGround = ToAircraft

-- every frame that is there after was there before
abbrev pub OnlyOf : List Underway → List Underway → Type 0
OnlyOf before after = (f : Underway) → Among f after → Among f before

-- what a call of a channel answers and leaves: the channel before it, its arguments, its answer, the channel after it; a take
-- has the buffer before and after it too
abbrev pub SlotCall : Type 0 → Type 1
SlotCall C = C → ℕ → Result (Unit {0}) ChannelFault → C → Type 0

abbrev pub PutCall : Type 0 → Type 1
PutCall C = C → Lane → List ℕ → Result (Unit {0}) ChannelFault → C → Type 0

abbrev pub TakeCall : Type 0 → Type 1
TakeCall C = C → Lane → List ℕ → Result (Option Taken) ChannelFault → C → List ℕ → Type 0

-- what is refused
abbrev pub bad_slot : ℕ → ℕ → Bool
bad_slot clock slot = nat_lt slot clock || nat_lt last_slot slot

abbrev pub bad_frame : List ℕ → Bool
bad_frame octets = nat_lt frame_room (length octets)

abbrev pub bad_buffer : List ℕ → Bool
bad_buffer buffer = nat_lt (length buffer) frame_room

-- a channel c before a call and c' after it
module _ {C : Type 0} (clock : C → ℕ) (underway : C → Lane → List Underway) where
  -- a slot sets the clock, and adds no frame
  pub record Moved (c : C) (slot : ℕ) (c' : C) : Type 0 where
    pub clock_is : clock c' ≡ slot
    pub lanes : (lane : Lane) → OnlyOf (underway c lane) (underway c' lane)

  abbrev pub Slots : C → ℕ → Result (Unit {0}) ChannelFault → C → Type 0
  Slots c slot (Ok done) c' = (bad_slot (clock c) slot ≡ false) × Moved c slot c'
  Slots c slot (Err f) c' = (bad_slot (clock c) slot ≡ true) × (f ≡ fault.Slot) × (c' ≡ c)

  -- a put adds at most this frame to the lane, marked with the clock's slot
  pub record Added (c : C) (lane : Lane) (octets : List ℕ) (c' : C) : Type 0 where
    pub clock_is : clock c' ≡ clock c
    pub own : (f : Underway) → Among f (underway c' lane) → (f ≡ (octets, clock c)) ⊎ Among f (underway c lane)
    pub other : OnlyOf (underway c (opposite lane)) (underway c' (opposite lane))

  abbrev pub Puts : C → Lane → List ℕ → Result (Unit {0}) ChannelFault → C → Type 0
  Puts c lane octets (Ok done) c' = (bad_frame octets ≡ false) × Added c lane octets c'
  Puts c lane octets (Err f) c' = (bad_frame octets ≡ true) × (f ≡ fault.Buffer) × (c' ≡ c)

  module _ (delay : Lane → ℕ) where
    -- what a take gives was underway on the lane and is no older than its delay; it is written at the front of the buffer
    pub record Given (c : C) (lane : Lane) (buffer : List ℕ) (t : Taken) (after : List ℕ) : Type 0 where
      pub octets : List ℕ
      pub was : Among (octets, t.slot) (underway c lane)
      pub young : clock c ≤ t.slot + delay lane
      pub len : t.len ≡ length octets
      pub written : after ≡ octets ++ drop t.len buffer

    -- it gives none, and the buffer is as it was, or one frame
    abbrev pub Gives : C → Lane → List ℕ → Option Taken → List ℕ → Type 0
    Gives c lane buffer None after = after ≡ buffer
    Gives c lane buffer (Some t) after = Given c lane buffer t after

    -- a take adds no frame
    pub record Took (c : C) (lane : Lane) (buffer : List ℕ) (taken : Option Taken) (c' : C) (after : List ℕ) : Type 0 where
      pub clock_is : clock c' ≡ clock c
      pub lanes : (l : Lane) → OnlyOf (underway c l) (underway c' l)
      pub gives : Gives c lane buffer taken after

    abbrev pub Takes : C → Lane → List ℕ → Result (Option Taken) ChannelFault → C → List ℕ → Type 0
    Takes c lane buffer (Ok taken) c' after = (bad_buffer buffer ≡ false) × Took c lane buffer taken c' after
    Takes c lane buffer (Err f) c' after = (bad_buffer buffer ≡ true) × (f ≡ fault.Buffer) × (c' ≡ c) × (after ≡ buffer)
