use Rattle.std.proofs.Common.{◌≡◌, ◌≤◌, take}
use Rattle.forms.specs.Forms.{value_from}
use Rattle.forms.proofs.cursor.value.Given as goal

abbrev pub invariant-loop-place : goal.invariant-loop-place
invariant-loop-place l = (value_from 0 (take l.place l.digits) ≡ l.number) × (l.number ≤ 4294967295)
