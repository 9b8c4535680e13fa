-- The places of a receiving half in code, as the rules see them.
use Rattle.std.specs.Prelude.{◌≡◌, ℕ, List, [], ◌∷◌, ◌++◌, map, length, drop, Some, None, Option}
use Rattle.arrayvec.specs.ArrayVec.{ArrayVec}
use Rattle.frame.specs.declared.bdu.Bdu.{Bdu as Code}
use Rattle.receiver.specs.declared.place.Place.{Place}
use Rattle.rules.specs.Receiving.{Bdu}
use Rattle.rules.specs.Receiving as rule

-- what is held of one BDU: its octets
abbrev pub piece_of : Option (ArrayVec ℕ) → Option (List ℕ)
piece_of None = None
piece_of (Some octets) = Some octets.items

abbrev pub place_of : Place → rule.Place
place_of p = record { opened = p.opened; pieces = map piece_of p.pieces; last = p.last }

-- a BDU in code, as the rules see it
abbrev pub bdu_of : Code → Bdu
bdu_of b = record { q = b.header.q; rn = b.header.rn; more = b.header.more; bsn = b.header.bsn; octets = b.payload.now }

-- what is held, one BDU behind the other
abbrev pub joined : List (Option (List ℕ)) → List ℕ
joined [] = []
joined (None ∷ ps) = joined ps
joined (Some xs ∷ ps) = xs ++ joined ps

-- the packet that the place has whole, written at the front of a buffer: how many octets it has, and the buffer after it; else nothing happens
abbrev pub Whole : Option (List ℕ) → List ℕ → Option ℕ → List ℕ → Type 0
Whole None buffer None after = after ≡ buffer
Whole None buffer (Some len) after = ⊥
Whole (Some octets) buffer None after = ⊥
Whole (Some octets) buffer (Some len) after = (len ≡ length octets) × (after ≡ octets ++ drop len buffer)

-- the place is empty after a packet was handed up, and else as it was
abbrev pub Emptied : Option ℕ → rule.Place → rule.Place → Type 0
Emptied None P P' = P' ≡ P
Emptied (Some len) P P' = P' ≡ rule.empty
