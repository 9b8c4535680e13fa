-- The numbers of the service, each under its name.
use Rattle.std.specs.Prelude.{ℕ}
use Rattle.frame.specs.Packets.{longest}

-- slots from the accept of a packet to its expiry
abbrev pub lifetime : ℕ
lifetime = 74

-- slots from the opening of a receiver's place until it is emptied
abbrev pub hold : ℕ
hold = 75

-- slots from the accept of a packet that expired until its reference number is free: lifetime and hold
abbrev pub rest : ℕ
rest = 149

-- slots from the sending of a number until a report that leaves it out returns it
abbrev pub return_age : ℕ
return_age = 2

-- the most data frames that an end sends in one slot
abbrev pub a_slot : ℕ
a_slot = 8

-- the numbers of a window: the oldest one and the eight behind it
abbrev pub window_size : ℕ
window_size = 9

-- the last slot
abbrev pub last_slot : ℕ
last_slot = 4000000000

-- the most that the delays of a channel's two lanes add up to
abbrev pub delays : ℕ
delays = 1

-- the least room for a frame: the longest one has eight octets and a BDU's
abbrev pub frame_room : ℕ
frame_room = 61

-- the least room for a packet
abbrev pub packet_room : ℕ
packet_room = longest
