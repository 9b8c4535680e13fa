-- The receiving half of the link: what it holds, and its rules.
use Rattle.std.specs.Prelude.{ℕ, suc, ◌+◌, ◌*◌, Bool, true, false, cond, not, ◌&&◌, ◌||◌, List, [], ◌∷◌, ◌++◌, map, get_or, take, drop, replicate, is_some, Some, None, Option, nat_le, nat_lt, slice_index_or, slice_set}
use Rattle.std.specs.List.{range_with_len}
use Rattle.frame.specs.Numbers.{advanced, distance}
use Rattle.rules.specs.Constants.{hold, window_size}

-- a BDU as a data frame brings it; more is M, false on the packet's last BDU
pub record Bdu : Type 0 where
  pub q : ℕ
  pub rn : ℕ
  pub more : Bool
  pub bsn : ℕ
  pub octets : List ℕ

-- the place of one Q and RN: the slot of its opening, the octets held by BSN (8 entries), and the BSN of the last BDU once that is held
pub record Place : Type 0 where
  pub opened : ℕ
  pub pieces : List (Option (List ℕ))
  pub last : Option ℕ

-- R, the oldest number not received (modulo 256), the flags of R+1 to R+8, and the places, that of Q and RN at 4 × Q + RN
pub record Receiving : Type 0 where
  pub oldest : ℕ
  pub flags : List Bool
  pub places : List Place

-- what a bring of data answers
pub data Answer : Type 0 where
  Held : Answer
  Packet : ℕ → ℕ → List ℕ → Answer
  Refused : ℕ → Answer

abbrev pub empty : Place
empty = record { opened = 0; pieces = replicate 8 None; last = None }

abbrev pub new : Receiving
new = record { oldest = 0; flags = replicate 8 false; places = replicate 16 empty }

-- ## numbers

-- which of R to R+8 are received; R is not
abbrev pub window : Receiving → List Bool
window V = false ∷ V.flags

-- n is among R to R+8 and not received
abbrev pub awaited : Receiving → ℕ → Bool
awaited V n = nat_lt (distance V.oldest n) window_size && not (slice_index_or (window V) (distance V.oldest n) false)

-- how many in front are received
abbrev pub front : List Bool → ℕ
front [] = 0
front (true ∷ rest) = suc (front rest)
front (false ∷ rest) = 0

-- R moves past all received numbers, where w says which of R to R+8 are
abbrev pub moved : List Bool → Receiving → Receiving
moved w V = record {
  oldest = advanced V.oldest (front w);
  flags = map (λ i. get_or w (front w + 1 + i) false) (range_with_len 0 8);
  places = V.places;
}

-- n counts as received
abbrev pub received : ℕ → Receiving → Receiving
received n V = moved (slice_set (window V) (distance V.oldest n) true) V

-- ## places

abbrev pub place : Receiving → Bdu → Place
place V u = slice_index_or V.places (4 * u.q + u.rn) empty

abbrev pub with_place : Bdu → Place → Receiving → Receiving
with_place u P V = record { oldest = V.oldest; flags = V.flags; places = slice_set V.places (4 * u.q + u.rn) P }

-- some piece is held
abbrev pub any : List (Option (List ℕ)) → Bool
any [] = false
any (p ∷ ps) = is_some p || any ps

-- the last BDU is held, and this BSN is greater or this M is 0
abbrev pub past_last : Option ℕ → Bdu → Bool
past_last None u = false
past_last (Some l) u = nat_lt l u.bsn || not u.more

-- its BSN is held; or it lies past the last; or M is 0 and a greater BSN is held
abbrev pub contradicts : Place → Bdu → Bool
contradicts P u = is_some (slice_index_or P.pieces u.bsn None) || (past_last P.last u || (not u.more && any (drop (suc u.bsn) P.pieces)))

-- the place with the BDU; the first one opens it
abbrev pub added : Place → Bdu → ℕ → Place
added P u now = record {
  opened = cond (any P.pieces) P.opened now;
  pieces = slice_set P.pieces u.bsn (Some u.octets);
  last = cond u.more P.last (Some u.bsn);
}

-- one piece in front of the others, if all are held
abbrev pub before : List ℕ → Option (List ℕ) → Option (List ℕ)
before xs None = None
before xs (Some ys) = Some (xs ++ ys)

-- the pieces one after the other, if all are held
abbrev pub gathered : List (Option (List ℕ)) → Option (List ℕ)
gathered [] = Some []
gathered (None ∷ ps) = None
gathered (Some xs ∷ ps) = before xs (gathered ps)

-- the packet, if all BDUs up to the last are held
abbrev pub packet_to : Option ℕ → List (Option (List ℕ)) → Option (List ℕ)
packet_to None ps = None
packet_to (Some l) ps = gathered (take (suc l) ps)

abbrev pub packet : Place → Option (List ℕ)
packet P = packet_to P.last P.pieces

-- ## the calls

-- a BDU that is taken: its place is now P; a whole packet is handed up, and the place is empty
abbrev pub settled : Receiving → Bdu → Place → Option (List ℕ) → Answer × Receiving
settled V u P None = (Answer.Held, with_place u P V)
settled V u P (Some octets) = (Answer.Packet u.q u.rn octets, with_place u empty V)

-- a BDU comes under the number n: 7 if n is not awaited, 8 if it contradicts its place
abbrev pub bring : Receiving → ℕ → Bdu → ℕ → Answer × Receiving
bring V n u now =
    cond (awaited V n)
    (cond (contradicts (place V u) u) (Answer.Refused 8, V) (settled (received n V) u (added (place V u) u now) (packet (added (place V u) u now))))
    (Answer.Refused 7, V)

-- a place that was opened 75 slots ago is emptied
abbrev pub aged : ℕ → Place → Place
aged now P = cond (nat_le (P.opened + hold) now) empty P

abbrev pub slot : ℕ → Receiving → Receiving
slot now V = record { oldest = V.oldest; flags = V.flags; places = map (aged now) V.places }

-- the values of a report
abbrev pub report : Receiving → ℕ × List Bool
report V = (V.oldest, V.flags)
