-- Laws of the receiving half: what holds after any calls, and what a bring of data answers.
use Rattle.std.specs.Prelude.{◌≡◌, ℕ, ◌<◌, true, false, ◌⊎◌, ◌↔◌, List, length, is_some, Some, None, slice_index_or}
use Rattle.frame.specs.Numbers.{distance}
use Rattle.rules.specs.Constants.{window_size}
use Rattle.rules.specs.Receiving.{Bdu, Place, Receiving, Answer, empty, new, window, place, added, packet, bring, slot}

-- ## after any calls

-- the halves that calls lead to: a new one, and any of them after data under any number or after a slot
pub data Brought : Receiving → Type 0 where
  start : Brought new
  data_came : {V : Receiving} → Brought V → (n : ℕ) (u : Bdu) (now : ℕ) → Brought (bring V n u now).1
  slot_came : {V : Receiving} → Brought V → (now : ℕ) → Brought (slot now V)

-- eight flags, sixteen places, and no place holds a complete packet
pub record Tidy (V : Receiving) : Type 0 where
  pub flags : length V.flags ≡ 8
  pub places : length V.places ≡ 16
  pub partial : (p : ℕ) → packet (slice_index_or V.places p empty) ≡ None

-- so it is after any calls
abbrev pub NeverWhole : Type 0
NeverWhole = (V : Receiving) → Brought V → Tidy V

-- ## what a bring answers

-- n is one of the nine numbers from the oldest on, and is not received
abbrev pub Awaits : Receiving → ℕ → Type 0
Awaits V n = (distance V.oldest n < window_size) × (slice_index_or (window V) (distance V.oldest n) false ≡ false)

-- the place holds the piece b
abbrev pub Holds : Place → ℕ → Type 0
Holds P b = is_some (slice_index_or P.pieces b None) ≡ true

-- the last BDU is known, and this one would come after it or be a last one again
abbrev pub AfterLast : Place → Bdu → Type 0
AfterLast P u = (l : ℕ) × (P.last ≡ Some l) × ((l < u.bsn) ⊎ (u.more ≡ false))

-- this one would be the last BDU, and a later one is held
abbrev pub BeforeHeld : Place → Bdu → Type 0
BeforeHeld P u = (u.more ≡ false) × ((b : ℕ) × (u.bsn < b) × Holds P b)

-- the BDU and what its place holds cannot be of one packet
abbrev pub Contradicts : Place → Bdu → Type 0
Contradicts P u = Holds P u.bsn ⊎ (AfterLast P u ⊎ BeforeHeld P u)

-- the BDU is taken
abbrev pub Takes : Receiving → ℕ → Bdu → Type 0
Takes V n u = Awaits V n × (Contradicts (place V u) u → ⊥)

-- the answer a and the half V' after it: which answer, exactly when; a refusal is 7 or 8, and leaves the half as it was
pub record Answers (V : Receiving) (n : ℕ) (u : Bdu) (now : ℕ) (a : Answer) (V' : Receiving) : Type 0 where
  pub not_awaited : (a ≡ Answer.Refused 7) ↔ (Awaits V n → ⊥)
  pub contradicting : (a ≡ Answer.Refused 8) ↔ (Awaits V n × Contradicts (place V u) u)
  pub whole : (q rn : ℕ) (octets : List ℕ)
      → (a ≡ Answer.Packet q rn octets) ↔ (Takes V n u × (q ≡ u.q) × (rn ≡ u.rn) × (packet (added (place V u) u now) ≡ Some octets))
  pub held : (a ≡ Answer.Held) ↔ (Takes V n u × (packet (added (place V u) u now) ≡ None))
  pub refused : (number : ℕ) → a ≡ Answer.Refused number → ((number ≡ 7) ⊎ (number ≡ 8)) × (V' ≡ V)

abbrev pub BringAnswers : Type 0
BringAnswers = (V : Receiving) (n : ℕ) (u : Bdu) (now : ℕ) → Answers V n u now (bring V n u now).0 (bring V n u now).1
