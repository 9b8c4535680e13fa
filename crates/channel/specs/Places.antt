-- The places of a lane of the steered line: what they hold, and what a put and a take make of them.
use Rattle.std.specs.Prelude.{ℕ, ◌/◌, ◌%◌, ◌==◌, List, [], ◌∷◌, ◌++◌, length, drop, set, get_or, map, Some, None, Option, nat_le, if◌then◌else◌}
use Rattle.channel.specs.Channels.{Underway}
use Rattle.channel.specs.declared.channel.Taken.{Taken}
use Rattle.channel.specs.declared.places.Carried.{Carried}
use Rattle.channel.specs.declared.places.Places.{Places}

-- a frame in code
abbrev pub frame_of : Carried → Underway
frame_of carried = (carried.octets.items, carried.slot)

abbrev pub place_of : Option Carried → Option Underway
place_of None = None
place_of (Some carried) = Some (frame_of carried)

abbrev pub frames_of : Places → List (Option Underway)
frames_of p = map place_of p.places

-- the frames that are underway
abbrev pub held : List (Option Underway) → List Underway
held [] = []
held (None ∷ ps) = held ps
held (Some f ∷ ps) = f ∷ held ps

-- a frame is put into the first empty place; if there is none, it is lost
abbrev pub filled : Underway → List (Option Underway) → List (Option Underway)
filled f [] = []
filled f (None ∷ ps) = Some f ∷ ps
filled f (Some g ∷ ps) = Some g ∷ filled f ps

-- a frame that was put in the slot since or later
abbrev pub young : ℕ → Option Underway → Option Underway
young since None = None
young since (Some f) = if nat_le since f.1 then Some f else None

abbrev pub read_place : ℕ → ℕ → List (Option Underway) → Option Underway
read_place at since ps = young since (get_or ps at None)

-- what a take by an octet leaves: bits 0 to 3 name a place, which is emptied unless bit 4 is set
abbrev pub spared : ℕ → List (Option Underway) → List (Option Underway)
spared octet ps = if octet / 16 % 2 == 0 then set ps (octet % 16) None else ps

-- what a take answers of the frame that it gives
abbrev pub answer : Option Underway → Option Taken
answer None = None
answer (Some f) = Some (record { len = length f.0; slot = f.1 })

-- the buffer after it
abbrev pub written : Option Underway → List ℕ → List ℕ
written None buffer = buffer
written (Some f) buffer = f.0 ++ drop (length f.0) buffer
