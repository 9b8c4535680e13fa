-- A list of octets as text: two lower-case hexadecimal digits each, with single spaces between.
use Rattle.std.specs.Prelude.{◌≡◌, ℕ, ◌+◌, ◌/◌, ◌%◌, ◌<◌, cond, ◌⊎◌, List, [], ◌∷◌, length, Some, None, Ok, Err, vec_items, Option, Result, Vec, ◌≢◌, nat_lt, slice_index, slice_index_or}
use Rattle.std.specs.List.{flat_map}
use Rattle.frame.specs.Beginnings.{FirstWrong}
use Rattle.forms.specs.declared.octets.OctetsFault.{OctetsFault}
use Rattle.forms.specs.declared.octets.OctetsFault.TheVariants.{Misfit, Memory}

-- the character of a hexadecimal digit
abbrev pub digit : ℕ → ℕ
digit d = cond (nat_lt d 10) (48 + d) (87 + d)

-- the octets behind the first one, each behind a space
abbrev pub spaced_text : List ℕ → List ℕ
spaced_text = flat_map (λ b. 32 ∷ digit (b / 16) ∷ digit (b % 16) ∷ [])

-- the text of a list of octets
abbrev pub octets_text : List ℕ → List ℕ
octets_text [] = []
octets_text (b ∷ bs) = digit (b / 16) ∷ digit (b % 16) ∷ spaced_text bs

-- each is an octet
abbrev pub AreOctets : List ℕ → Type 0
AreOctets bs = (k : ℕ) → slice_index bs k < 256

-- a text is a list of octets
abbrev pub IsOctets : List ℕ → Type 0
IsOctets text = (bs : List ℕ) × AreOctets bs × (text ≡ octets_text bs)

-- a character is no hexadecimal digit
abbrev pub NoDigit : ℕ → Type 0
NoDigit c = (d : ℕ) → d < 16 → c ≢ digit d

-- the digit that a character is
abbrev pub DigitOf : ℕ → Option ℕ → Type 0
DigitOf c (Some d) = (d < 16) × (c ≡ digit d)
DigitOf c None = NoDigit c

-- the digit that stands at a place of a text; behind the text none does
abbrev pub DigitAt : List ℕ → ℕ → Result ℕ OctetsFault → Type 0
DigitAt text place (Ok d) = (place < length text) × (d < 16) × (slice_index text place ≡ digit d)
DigitAt text place (Err (Misfit wrong)) = (wrong ≡ place) × NoDigit (slice_index text place)
DigitAt text place (Err Memory) = ⊥

-- the two digits of an octet stand at a place of a text
pub record Octet (text : List ℕ) (place b : ℕ) : Type 0 where
  pub within : place + 1 < length text
  pub small : b < 256
  pub high : slice_index_or text place 0 ≡ digit (b / 16)
  pub low : slice_index_or text (place + 1) 0 ≡ digit (b % 16)

-- at a place of a text stands a digit, and behind it none
pub record HalfOctet (text : List ℕ) (place : ℕ) : Type 0 where
  pub within : place < length text
  pub value : ℕ
  pub small : value < 16
  pub high : slice_index_or text place 0 ≡ digit value
  pub low : NoDigit (slice_index text (place + 1))

-- the octet that stands at a place of a text, or which of its two characters is no digit
abbrev pub OctetAt : List ℕ → ℕ → Result ℕ OctetsFault → Type 0
OctetAt text place (Ok b) = Octet text place b
OctetAt text place (Err (Misfit wrong)) = ((wrong ≡ place) × NoDigit (slice_index text place)) ⊎ ((wrong ≡ place + 1) × HalfOctet text place)
OctetAt text place (Err Memory) = ⊥

-- why a text is not read: its first place that fits no list of octets, or no memory
abbrev pub Unread : List ℕ → OctetsFault → Type 0
Unread text (Misfit place) = FirstWrong IsOctets text place
Unread text Memory = Unit {0}

-- what is read of a text: the octets whose text it is
abbrev pub OctetsRead : {Z : Type 0} → List ℕ → Result (Vec ℕ Z) OctetsFault → Type 0
OctetsRead text (Ok v) = AreOctets (vec_items v) × (text ≡ octets_text (vec_items v))
OctetsRead text (Err e) = Unread text e

-- what the text of a list of octets is read as: the same list, unless there is no memory
abbrev pub ReadBack : {Z : Type 0} → List ℕ → Result (Vec ℕ Z) OctetsFault → Type 0
ReadBack octets (Ok v) = vec_items v ≡ octets
ReadBack octets (Err e) = e ≡ Memory

-- two lists of octets with the same text are the same
abbrev pub TextTells : Type 0
TextTells = (bs cs : List ℕ) → AreOctets bs → AreOctets cs → octets_text bs ≡ octets_text cs → bs ≡ cs
