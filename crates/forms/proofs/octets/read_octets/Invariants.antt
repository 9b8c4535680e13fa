use Rattle.std.proofs.Common.{◌-◌, length, vec_items}
use Rattle.forms.proofs.OctetTexts.{Stands}
use Rattle.forms.proofs.octets.read_octets.Given as goal

abbrev pub invariant-loop-place : goal.invariant-loop-place
invariant-loop-place l = Stands l.text (vec_items l.octets) l.place

abbrev pub decreases-loop-place : goal.decreases-loop-place
decreases-loop-place l = length l.text - l.place
