-- A packet of 1 to 424 octets, cut into BDUs of 53.
use Rattle.std.specs.Prelude.{◌≡◌, ℕ, zero, suc, ◌+◌, ◌-◌, ◌*◌, ◌/◌, ◌<◌, ◌≤◌, min, List, [], ◌++◌, length, take, drop, Some, None, Ok, Err, Option, Result, nat_lt}
use Rattle.std.specs.Borrow.{Bor}
use Rattle.frame.specs.declared.cutting.Cutting.{Cutting}
use Rattle.frame.specs.declared.fault.FrameFault.{FrameFault}
use Rattle.frame.specs.declared.fault.FrameFault.TheVariants.{Packet, Buffer, Unreadable, Aircraft}
use Rattle.frame.specs.declared.header.BduHeader.{BduHeader}

-- the octets of every BDU but a packet's last
abbrev pub part_size : ℕ
part_size = 53

-- the most octets of a packet
abbrev pub longest : ℕ
longest = 424

-- a packet of this priority, reference number and length can be cut
pub record CanCut (q rn len : ℕ) : Type 0 where
  pub priority : q < 4
  pub reference : rn < 4
  pub some : 1 ≤ len
  pub most : len ≤ longest

-- how many BDUs a packet of this length has
abbrev pub bdus_in : ℕ → ℕ
bdus_in len = (len + (part_size - 1)) / part_size

-- the octets of a packet's BDU: 53 from 53 times its BSN on, or what is left
abbrev pub part_at : List ℕ → ℕ → List ℕ
part_at packet bsn = take part_size (drop (part_size * bsn) packet)

-- the header of a packet's BDU; M says that more follow
abbrev pub header_at_bsn : Cutting → ℕ → BduHeader
header_at_bsn cutting bsn = record { rn = cutting.rn; q = cutting.q; more = nat_lt (bsn + 1) (bdus_in cutting.len); bsn = bsn }

-- the first BDUs of a packet, one behind the other
abbrev pub first_parts : List ℕ → ℕ → List ℕ
first_parts packet zero = []
first_parts packet (suc n) = first_parts packet n ++ part_at packet n

-- the BDUs of a packet joined are the packet
abbrev pub PartsJoin : Type 0
PartsJoin = (packet : List ℕ) → first_parts packet (bdus_in (length packet)) ≡ packet

-- why a packet is not cut
abbrev pub NotCut : ℕ → ℕ → ℕ → FrameFault → Type 0
NotCut q rn len Packet = CanCut q rn len → ⊥
NotCut q rn len Buffer = ⊥
NotCut q rn len (Unreadable place) = ⊥
NotCut q rn len Aircraft = ⊥

abbrev pub CutMade : ℕ → ℕ → ℕ → Result Cutting FrameFault → Type 0
CutMade q rn len (Ok cutting) = (cutting.q ≡ q) × (cutting.rn ≡ rn) × (cutting.len ≡ len)
CutMade q rn len (Err fault) = NotCut q rn len fault

abbrev pub HeaderCut : Cutting → ℕ → Option BduHeader → Type 0
HeaderCut cutting bsn (Some h) = (bsn < bdus_in cutting.len) × (h ≡ header_at_bsn cutting bsn)
HeaderCut cutting bsn None = bdus_in cutting.len ≤ bsn

-- a BDU's octets as a part of the packet: none behind the last BDU
abbrev pub PartCut : List ℕ → ℕ → Option (Bor (List ℕ)) → Type 0
PartCut packet bsn (Some part) =
    (bsn < bdus_in (length packet)) × (part.now ≡ part_at packet bsn) × (length part.now ≡ min part_size (length packet - part_size * bsn))
PartCut packet bsn None = bdus_in (length packet) ≤ bsn
