-- The forms that linkrun reads, one a line.
use Rattle.std.specs.Prelude.{◌≡◌, ℕ, ◌+◌, ◌-◌, ◌*◌, ◌<◌, ◌≤◌, List, ◌++◌, length, take, Ok, Err, codes, Result, slice_index, fold}
use Rattle.frame.specs.Beginnings.{Begins}
use Rattle.forms.specs.declared.form.Form.{Form}
use Rattle.forms.specs.declared.form.Form.TheVariants.{Slot}
use Rattle.forms.specs.declared.fault.FormFault.{FormFault}

-- a decimal digit
abbrev pub IsDigit : ℕ → Type 0
IsDigit c = (48 ≤ c) × (c ≤ 57)

-- the number that decimal digits write, with what stands before them worth so much
abbrev pub value_from : ℕ → List ℕ → ℕ
value_from = fold (λ n c. n * 10 + (c - 48))

-- a text writes a number: one digit or more, leading zeros allowed, at most 4,294,967,295
pub record Writes (text : List ℕ) (n : ℕ) : Type 0 where
  pub some : 1 ≤ length text
  pub digits : (k : ℕ) → k < length text → IsDigit (slice_index text k)
  pub value : value_from 0 text ≡ n
  pub most : n ≤ 4294967295

-- a line spells a form
abbrev pub Spells : List ℕ → Form → Type 0
Spells line (Slot n) = (digits : List ℕ) × (line ≡ codes "(slot " ++ digits ++ codes ")") × Writes digits n

-- a line is a form
abbrev pub IsForm : List ℕ → Type 0
IsForm line = (form : Form) × Spells line form

-- the first character, from 0, that fits no form: what stands before it begins one; with it none begins so, unless it stands
-- behind the 2,048 characters of a line; and where the line ends there, the line is no form
pub record Misfit (line : List ℕ) (place : ℕ) : Type 0 where
  pub within : place ≤ length line
  pub limit : place ≤ 2048
  pub before : Begins IsForm (take place line)
  pub here : place < length line → place < 2048 → Begins IsForm (take (place + 1) line) → ⊥
  pub missing : place ≡ length line → IsForm line → ⊥

-- the answer to a line
abbrev pub Reads : List ℕ → Result Form FormFault → Type 0
Reads line (Ok form) = (length line ≤ 2048) × Spells line form
Reads line (Err fault) = (1 ≤ fault.column) × Misfit line (fault.column - 1)
