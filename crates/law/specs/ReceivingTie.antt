-- The receiving half and the ledger of its direction and log-on: when they say the same.
use Rattle.std.specs.Prelude.{◌≡◌, ℕ, suc, ◌+◌, ◌/◌, ◌%◌, ◌<◌, ◌≤◌, false, List, length, Some, None, Option, nat_lt, slice_index_or}
use Rattle.law.specs.Ledger.{Cell, Packet, Frame, Ledger}
use Rattle.law.specs.Ledger as ledger
use Rattle.law.specs.Steps.{Lowest}
use Rattle.rules.specs.Constants.{packet_room}
use Rattle.rules.specs.Sending.{piece, pieces}
use Rattle.rules.specs.Receiving.{Bdu, Place, Receiving, empty}

-- the octets of a packet of the ledger: 1 to 424, and the packet's pieces are theirs
abbrev pub Body : Packet → List ℕ → Type 0
Body p octets = record {
  some : 1 ≤ length octets;
  most : length octets ≤ packet_room;
  size : p.size ≡ pieces octets;
  key : p.key < 16;
}

-- what a place of the ledger holds of BSN b, in octets
abbrev pub shown : (ℕ → List ℕ) → ℕ → Cell → Option (List ℕ)
shown bodies b Cell.Empty = None
shown bodies b (Cell.From i) = Some (piece (bodies i) b)

-- the place P is the ledger's place at
abbrev pub SamePlace : Ledger → (ℕ → List ℕ) → Place → ledger.Place → Type 0
SamePlace L bodies P at = record {
  eight : length P.pieces ≡ 8;
  pieces : (b : ℕ) → b < 8 → slice_index_or P.pieces b None ≡ shown bodies b (at.holds b);
  opened : (b i : ℕ) → at.holds b ≡ Cell.From i → P.opened ≡ at.since;
  last : (b i : ℕ) → at.holds b ≡ Cell.From i → suc b ≡ (L.tx.packet i).size → P.last ≡ Some b;
  is_last : (b : ℕ) → P.last ≡ Some b → (i : ℕ) × (at.holds b ≡ Cell.From i) × (suc b ≡ (L.tx.packet i).size);
}

-- the half V and the ledger L say the same; low is the oldest number not received, counted absolutely
abbrev pub Tied : Receiving → Ledger → (ℕ → List ℕ) → Type 0
Tied V L bodies = record {
  low : ℕ;
  lowest : Lowest L low;
  oldest : V.oldest ≡ low % 256;
  eight : length V.flags ≡ 8;
  flags : (i : ℕ) → i < 8 → slice_index_or V.flags i false ≡ L.rx.got (low + 1 + i);
  sixteen : length V.places ≡ 16;
  places : (p : ℕ) → p < 16 → SamePlace L bodies (slice_index_or V.places p empty) (L.rx.place p);
  bodies : (i : ℕ) → i < L.tx.total → Body (L.tx.packet i) (bodies i);
}

-- the BDU that the ledger's frame f carries
abbrev pub carried : Ledger → (ℕ → List ℕ) → Frame → Bdu
carried L bodies f = record {
  q = (L.tx.packet f.packet).key / 4;
  rn = (L.tx.packet f.packet).key % 4;
  more = nat_lt (suc f.part) (L.tx.packet f.packet).size;
  bsn = f.part;
  octets = piece (bodies f.packet) f.part;
}
