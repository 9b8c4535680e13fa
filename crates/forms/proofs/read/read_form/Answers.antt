use Rattle.std.proofs.lemmas.Result.{err_from_is_err_and}
use Rattle.forms.proofs.Limits.{misfit}
use Rattle.forms.proofs.read.read_form.Goals as goal

pub returns-in_err-form : goal.returns-in_err-form
returns-in_err-form c =
    let p = err_from_is_err_and c.from_residual.result c.from_residual.ensures.1 in
    let found = c.in_err-form.ensures in
    rw (p.1, p.2) (found.0, misfit c.args.line.now _ found.1)
