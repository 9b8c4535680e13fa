-- The steered line: what it holds, and what each call makes of it.
use Rattle.std.specs.Prelude.{◌≡◌, ℕ, ◌-◌, ◌%◌, List, drop, get_or, replicate, None, Option, Ok, Err}
use Rattle.channel.specs.Channels.{Underway, SlotCall, PutCall, TakeCall, by_lane}
use Rattle.channel.specs.Places.{held, filled, read_place, spared, answer, written}
use Rattle.channel.specs.declared.channel.Lane.{Lane}
use Rattle.channel.specs.declared.channel.Lane.TheVariants.{ToAircraft, ToGround}

-- the clock, the places of each lane, and the octets that steer the takes to come
pub record Line : Type 0 where
  pub clock : ℕ
  pub to_aircraft : List (Option Underway)
  pub to_ground : List (Option Underway)
  pub steering : List ℕ

abbrev pub clock_of : Line → ℕ
clock_of line = line.clock

abbrev pub places : Line → Lane → List (Option Underway)
places line = by_lane line.to_aircraft line.to_ground

-- the frames underway
abbrev pub carried : Line → Lane → List Underway
carried line lane = held (places line lane)

abbrev pub delay : Lane → ℕ
delay = by_lane 1 0

-- an empty line at clock 0
abbrev pub new : List ℕ → Line
new octets = record { clock = 0; to_aircraft = replicate 16 None; to_ground = replicate 16 None; steering = octets }

-- the same line in another slot
abbrev pub at_slot : ℕ → Line → Line
at_slot slot line = record { clock = slot; to_aircraft = line.to_aircraft; to_ground = line.to_ground; steering = line.steering }

-- the line with other places on one lane
abbrev pub with_places : Lane → List (Option Underway) → Line → Line
with_places ToAircraft ps line = record { clock = line.clock; to_aircraft = ps; to_ground = line.to_ground; steering = line.steering }
with_places ToGround ps line = record { clock = line.clock; to_aircraft = line.to_aircraft; to_ground = ps; steering = line.steering }

-- a put: the frame is marked with the clock's slot
abbrev pub after_put : Lane → List ℕ → Line → Line
after_put lane octets line = with_places lane (filled (octets, line.clock) (places line lane)) line

-- the octet that steers the next take: 0 past the end
abbrev pub turn : Line → ℕ
turn line = get_or line.steering 0 0

-- the frame that the next take gives, if it does
abbrev pub given : Lane → Line → Option Underway
given lane line = read_place (turn line % 16) (line.clock - delay lane) (places line lane)

-- the line whose next octet is read
abbrev pub turned : Line → Line
turned line = record { clock = line.clock; to_aircraft = line.to_aircraft; to_ground = line.to_ground; steering = drop 1 line.steering }

-- a take
abbrev pub after_take : Lane → Line → Line
after_take lane line = with_places lane (spared (turn line) (places line lane)) (turned line)

-- ## the calls: what each leaves and a take gives, if it is not refused

abbrev pub Slots : SlotCall Line
Slots line slot (Ok done) after = after ≡ at_slot slot line
Slots line slot (Err fault) after = Unit {0}

abbrev pub Puts : PutCall Line
Puts line lane octets (Ok done) after = after ≡ after_put lane octets line
Puts line lane octets (Err fault) after = Unit {0}

abbrev pub Takes : TakeCall Line
Takes line lane buffer (Ok taken) after rest = (after ≡ after_take lane line) × (taken ≡ answer (given lane line)) × (rest ≡ written (given lane line) buffer)
Takes line lane buffer (Err fault) after rest = Unit {0}
