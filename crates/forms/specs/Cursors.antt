-- What a cursor finds where it stands in a line: a literal word, a number, or neither.
use Rattle.std.specs.Prelude.{◌≡◌, ℕ, ◌+◌, ◌-◌, ◌*◌, ◌<◌, ◌≤◌, List, ◌++◌, length, take, Ok, Err, Result, ◌≢◌, slice_index}
use Rattle.forms.specs.Forms.{IsDigit, value_from, Writes, Spells, IsForm}
use Rattle.frame.specs.Beginnings.{FirstWrong}
use Rattle.forms.specs.declared.form.Form.{Form}
use Rattle.forms.specs.declared.fault.FormFault.{FormFault}

-- where a cursor stands in a line: what is left of it, and how many characters have been passed
pub record Standing : Type 0 where
  pub left : List ℕ
  pub passed : ℕ

-- the place of the first character that departs from a word, or at which the text ends before the word does
pub record Departs (text word : List ℕ) (place : ℕ) : Type 0 where
  pub inside : place < length word
  pub within : place ≤ length text
  pub same : take place text ≡ take place word
  pub here : place < length text → slice_index text place ≢ slice_index word place

-- every character is a digit
abbrev pub Digits : List ℕ → Type 0
Digits text = (k : ℕ) → k < length text → IsDigit (slice_index text k)

-- a text that does not begin with a digit
abbrev pub Stops : List ℕ → Type 0
Stops text = 0 < length text → IsDigit (slice_index text 0) → ⊥

-- digits, and behind them the first character with which they write no number: a digit that passes 4,294,967,295, or, where
-- there are no digits yet, something else
pub record NoNumber (digits left : List ℕ) : Type 0 where
  pub all : Digits digits
  pub most : value_from 0 digits ≤ 4294967295
  pub here : 0 < length left → IsDigit (slice_index left 0) → 4294967295 < value_from 0 digits * 10 + (slice_index left 0 - 48)
  pub none : Stops left → length digits ≡ 0

-- the value of a text of digits, or the place of the first digit with which it passes 4,294,967,295
abbrev pub Value : List ℕ → Result ℕ ℕ → Type 0
Value text (Ok n) = (value_from 0 text ≡ n) × (n ≤ 4294967295)
Value text (Err place) =
    (place < length text) × (value_from 0 (take place text) ≤ 4294967295)
    × (4294967295 < value_from 0 (take place text) * 10 + (slice_index text place - 48))

-- a cursor passes a word at the front of what is left of a line, or says where that departs from it
abbrev pub PassesWord : List ℕ → Standing → Standing → Result (Unit {0}) FormFault → Type 0
PassesWord word before behind (Ok _) =
    (behind.passed ≡ before.passed + length word) × (before.left ≡ word ++ behind.left)
PassesWord word before behind (Err fault) =
    (place : ℕ) × (fault.column ≡ before.passed + place + 1) × Departs before.left word place

-- a cursor passes a number at the front of what is left of a line, or says where that departs from one
abbrev pub PassesNumber : Standing → Standing → Result ℕ FormFault → Type 0
PassesNumber before behind (Ok n) =
    (digits : List ℕ) × Writes digits n × Stops behind.left × (behind.passed ≡ before.passed + length digits)
    × (before.left ≡ digits ++ behind.left)
PassesNumber before behind (Err fault) =
    (digits : List ℕ) × (left : List ℕ) × NoNumber digits left × (fault.column ≡ before.passed + length digits + 1)
    × (before.left ≡ digits ++ left)

-- a cursor finds nothing left of a line, or says that something stands there
abbrev pub FindsEnd : Standing → Result (Unit {0}) FormFault → Type 0
FindsEnd here (Ok _) = length here.left ≡ 0
FindsEnd here (Err fault) = (0 < length here.left) × (fault.column ≡ here.passed + 1)

-- the form that a text spells, or the column of the first character that fits none
abbrev pub ReadsFront : List ℕ → Result Form FormFault → Type 0
ReadsFront text (Ok form) = Spells text form
ReadsFront text (Err fault) = (1 ≤ fault.column) × FirstWrong IsForm text (fault.column - 1)
