-- The wire: what it holds, and what each call makes of it.
use Rattle.std.specs.Prelude.{◌≡◌, ℕ, ◌-◌, ◌≤◌, List, [], ◌∷◌, map, min, Option, Ok, Err, nat_lt, take, if◌then◌else◌}
use Rattle.channel.specs.Channels.{Underway, SlotCall, PutCall, TakeCall, by_lane}
use Rattle.channel.specs.Places.{answer, written}
use Rattle.channel.specs.WaitingLines.{Line, empty, oldest, pushed, popped}
use Rattle.channel.specs.declared.channel.Lane.{Lane}
use Rattle.channel.specs.declared.channel.Lane.TheVariants.{ToAircraft, ToGround}
use Rattle.channel.specs.declared.wire.Entry.{Entry}

-- a frame in code
abbrev pub underway_of : Entry → Underway
underway_of entry = (take entry.len entry.octets, entry.slot)

-- a line of entries, seen as its frames
abbrev pub seen : Line Entry → Line Underway
seen line = record { waiting = map underway_of line.waiting; room = line.room }

-- the frames without those at the front that were put before the slot since
abbrev pub without_older : ℕ → List Underway → List Underway
without_older since [] = []
without_older since (f ∷ fs) = if nat_lt f.1 since then without_older since fs else f ∷ fs

-- a line without them
abbrev pub cleared : ℕ → Line Underway → Line Underway
cleared since line = record { waiting = without_older since line.waiting; room = line.room }

-- the clock and the line of each lane
pub record WireState : Type 0 where
  pub clock : ℕ
  pub to_aircraft : Line Underway
  pub to_ground : Line Underway

abbrev pub clock_of : WireState → ℕ
clock_of wire = wire.clock

abbrev pub line_of : WireState → Lane → Line Underway
line_of wire ToAircraft = wire.to_aircraft
line_of wire ToGround = wire.to_ground

-- the frames underway, oldest first
abbrev pub carried : WireState → Lane → List Underway
carried wire lane = (line_of wire lane).waiting

abbrev pub delay : Lane → ℕ
delay = by_lane 0 1

-- the slot from which on a put is young enough for a lane
abbrev pub since : ℕ → Lane → ℕ
since clock lane = clock - delay lane

-- at most 32 frames wait on a lane
abbrev pub room_of : ℕ → ℕ
room_of places = min places 32

-- a wire at clock 0 with nothing underway, over rooms of so many places
abbrev pub new : ℕ → ℕ → WireState
new to_aircraft to_ground = record { clock = 0; to_aircraft = empty (room_of to_aircraft); to_ground = empty (room_of to_ground) }

-- a slot drops the frames that are older than their lane's delay
abbrev pub at_slot : ℕ → WireState → WireState
at_slot slot wire = record { clock = slot; to_aircraft = cleared (since slot ToAircraft) wire.to_aircraft; to_ground = cleared (since slot ToGround) wire.to_ground }

-- the wire with another line on one lane
abbrev pub with_line : Lane → Line Underway → WireState → WireState
with_line ToAircraft line wire = record { clock = wire.clock; to_aircraft = line; to_ground = wire.to_ground }
with_line ToGround line wire = record { clock = wire.clock; to_aircraft = wire.to_aircraft; to_ground = line }

-- a put: the frame goes behind the others with the clock's slot, or is lost if the lane is full
abbrev pub after_put : Lane → List ℕ → WireState → WireState
after_put lane octets wire = with_line lane (pushed (octets, wire.clock) (line_of wire lane)) wire

-- a take gives the oldest frame
abbrev pub given : Lane → WireState → Option Underway
given lane wire = oldest (line_of wire lane)

abbrev pub after_take : Lane → WireState → WireState
after_take lane wire = with_line lane (popped (line_of wire lane)) wire

-- the slots of the frames go up, from the slot low to the slot high
abbrev pub InOrder : ℕ → ℕ → List Underway → Type 0
InOrder low high [] = Unit {0}
InOrder low high (f ∷ fs) = (low ≤ f.1) × (f.1 ≤ high) × InOrder f.1 high fs

-- the frames lie in the order of their puts, and none is older than its lane's delay
abbrev pub InTime : WireState → Type 0
InTime wire = (lane : Lane) → InOrder (since wire.clock lane) wire.clock (carried wire lane)

-- what each call answers and leaves, where it is not refused
abbrev pub Slots : SlotCall WireState
Slots wire slot (Ok done) after = after ≡ at_slot slot wire
Slots wire slot (Err fault) after = Unit {0}

abbrev pub Puts : PutCall WireState
Puts wire lane octets (Ok done) after = after ≡ after_put lane octets wire
Puts wire lane octets (Err fault) after = Unit {0}

abbrev pub Takes : TakeCall WireState
Takes wire lane buffer (Ok taken) after rest = (after ≡ after_take lane wire) × (taken ≡ answer (given lane wire)) × (rest ≡ written (given lane wire) buffer)
Takes wire lane buffer (Err fault) after rest = Unit {0}
