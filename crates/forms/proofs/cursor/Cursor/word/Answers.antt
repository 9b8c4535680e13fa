use Rattle.std.proofs.Common.{Some, None, eqb, refl, arith}
use Rattle.std.specs.List.{common_prefix_len}
use Rattle.std.proofs.lemmas.Bool.Decides.{Decides-eqb}
use Rattle.std.proofs.lemmas.List.Sums.{common_prefix_len-le}
use Rattle.std.proofs.lemmas.Slice.Eq.{strip_prefix_is}
use Rattle.forms.proofs.Fronts.{departs}
use Rattle.forms.proofs.cursor.Cursor.word.Goals as goal

pub fault_at-requires : goal.fault_at-requires
fault_at-requires c =
    rw (← c.self.view_is) (omega (arith, common_prefix_len-le eqb c.self.inside.left.now c.args.word.now))

pub returns-in_default : goal.returns-in_default
returns-in_default c =
    let left = c.self.inside.left.now in
    let word = c.args.word.now in
    let other = strip_prefix_is Decides-eqb left word None c.in_default.ensures.cases in
    let d = departs left word other in
    (common_prefix_len eqb left word, omega (arith, c.fault_at.ensures, c.shared_front.ensures), rw (← c.self.view_is) d)

pub returns : goal.returns
returns c = rw (← c.self.view_is) (refl, strip_prefix_is Decides-eqb c.self.inside.left.now c.args.word.now (Some c.in-Some.left) c.in-Some.ensures.cases)
