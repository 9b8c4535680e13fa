-- A packet of a sending half in code, as the rules see it: its octets are the items of a vector of fixed capacity.
use Rattle.std.specs.Prelude.{ℕ, Bool, ◌&&◌, List, nat_lt, slice_index_or}
use Rattle.sender.specs.declared.packet.Packet.{Packet}
use Rattle.rules.specs.Sending.{Outgoing, blank, pieces, is_pending}
use Rattle.rules.specs.Choice.{is_waiting}
use Rattle.sender.specs.Standings.{standing_of}
use Rattle.rules.specs.declared.window.Progress.{Progress}

abbrev pub octets_of : Packet → List ℕ
octets_of p = p.octets.items

abbrev pub packet_of : Packet → Outgoing
packet_of p = record { standing = standing_of p.standing; octets = octets_of p; bdus = p.bdus }

-- the packet at a place
abbrev pub packet_in : List Outgoing → ℕ → Outgoing
packet_in ps p = slice_index_or ps p blank

-- a packet with its BDUs this far
abbrev pub with_bdus : List Progress → Outgoing → Outgoing
with_bdus bdus o = record { standing = o.standing; octets = o.octets; bdus = bdus }

-- a packet is pending, and its BDU of this number waits
abbrev pub waits_in : ℕ → Outgoing → Bool
waits_in bsn o = is_pending o.standing && (nat_lt bsn (pieces o.octets) && is_waiting (slice_index_or o.bdus bsn Progress.Waiting))
