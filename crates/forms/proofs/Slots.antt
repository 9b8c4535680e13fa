-- The form `(slot N)` as a sequence of a word, a number and a word.
use Rattle.std.proofs.Common.{◌≡◌, ℕ, zero, suc, ◌-◌, ◌<◌, ◌≤◌, List, [], ◌++◌, get_or, Err, codes, sym, refl, subst, arith}
use Rattle.frame.specs.Beginnings.{FirstWrong}
use Rattle.forms.specs.declared.fault.FormFault.{FormFault}
use Rattle.forms.specs.declared.form.Form.TheVariants.{Slot}
use Rattle.forms.specs.Forms.{IsDigit, IsForm}
use Rattle.forms.specs.Cursors.{Stops, Standing, ReadsFront}
use Rattle.forms.proofs.Sequences.{After, Numbered, Ended, NoDigit, same_wrong}
use Rattle.forms.proofs.Readings.{Refuses}

-- what follows the number
abbrev pub Closed : List ℕ → Type 0
Closed = After (codes ")") Ended

abbrev pub SlotForm : List ℕ → Type 0
SlotForm = After (codes "(slot ") (Numbered Closed)

pub no_digit : NoDigit Closed
no_digit text (rest, e, w) = subst Stops (sym e) (λ h d. let high : 48 ≤ 41 = d.0 in omega arith)

pub closed : Closed (codes ")")
closed = ([], refl, refl)

zero_digit : (k : ℕ) → k < 1 → IsDigit (get_or (codes "0") k 0)
zero_digit zero h = (omega arith, omega arith)
zero_digit (suc k) h = absurd (omega arith)

pub one_slot : Numbered Closed (codes "0)")
one_slot = (codes "0", 0, codes ")", record { some = omega arith; digits = zero_digit; value = refl; most = omega arith }, refl, closed)

to_form : (text : List ℕ) → SlotForm text → IsForm text
to_form text (rest, e, (digits, n, more, writes, f, (nothing, g, h))) = (Slot n, (digits, cc, writes))

from_form : (text : List ℕ) → IsForm text → SlotForm text
from_form text (Slot n, (digits, e, writes)) = (digits ++ codes ")", e, (digits, n, codes ")", writes, refl, closed))

-- a refusal of the whole line
pub refused : {text : List ℕ} (start : Standing) (fault : FormFault) → start.left ≡ text → start.passed ≡ 0 → Refuses SlotForm start fault → ReadsFront text (Err fault)
refused start fault e z r =
    let place : fault.column - 1 ≡ r.0 = omega (arith, r.1) in
    let wrong : FirstWrong IsForm start.left r.0 = same_wrong SlotForm IsForm start.left r.0 to_form from_form r.2 in
    let there : FirstWrong IsForm start.left (fault.column - 1) = subst (FirstWrong IsForm start.left) (sym place) wrong in
    (omega (arith, r.1), subst (λ (t : List ℕ). FirstWrong IsForm t (fault.column - 1)) e there)
