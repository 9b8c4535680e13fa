use Rattle.std.proofs.Common.{◌++◌, take, drop, sym, ap, ◌∙◌, append_assoc, arith}
use Rattle.std.proofs.lemmas.List.{take-append-drop, length-take-le}
use Rattle.forms.proofs.Numerals.{no_number}
use Rattle.forms.proofs.cursor.Cursor.number.Goals as goal

pub returns-in-Err : goal.returns-in-Err
returns-in-Err c =
    let digits = c.split_digits.result.0.now in
    let left = c.split_digits.result.1.now in
    let place = c.in-Err.place in
    let found = c.in-Err.ensures in
    let e = c.split_digits.ensures in (
      take place digits,
      drop place digits ++ left,
      no_number digits left place e.all found,
      omega (arith, length-take-le place digits (omega (arith, found.0))),
      rw (← c.self.view_is)
          (e.whole ∙ ap (λ t. t ++ left) (sym (take-append-drop place digits)) ∙ append_assoc (take place digits) (drop place digits) left),
    )
