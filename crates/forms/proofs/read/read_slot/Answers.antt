use Rattle.std.proofs.Common.{[], codes, refl}
use Rattle.std.proofs.lemmas.Result.{err_from_is_err_and}
use Rattle.forms.proofs.Readings.{word_refused, word_then, number_refused, number_then, end_refused}
use Rattle.forms.proofs.Sequences.{Numbered, Ended}
use Rattle.forms.proofs.Slots.{Closed, no_digit, closed, one_slot, refused}
use Rattle.forms.proofs.read.read_slot.Goals as goal

pub returns-in_err-word : goal.returns-in_err-word
returns-in_err-word c =
    let p = err_from_is_err_and c.from_residual.result c.from_residual.ensures.1 in
    let start = c.new-cursor.result in
    let fault = c.in_err-word.field-0.0 in
    rw (p.1, p.2)
    (refused start fault c.new-cursor.ensures.left c.new-cursor.ensures.passed
    (word_refused (Numbered Closed) (codes "(slot ") (codes "0)") start c.word.new.self fault one_slot c.in_err-word.ensures))

pub returns-in_err-slot : goal.returns-in_err-slot
returns-in_err-slot c =
    let p = err_from_is_err_and c.from_residual-in_err-slot.result c.from_residual-in_err-slot.ensures.1 in
    let start = c.new-cursor.result in
    let fault = c.in_err-slot.field-0.0 in
    rw (p.1, p.2)
    (refused start fault c.new-cursor.ensures.left c.new-cursor.ensures.passed
    (word_then (Numbered Closed) (codes "(slot ") start c.word.new.self fault c.in_ok-word.ensures
    (number_refused Closed (codes ")") c.word.new.self c.number.new.self fault no_digit closed c.in_err-slot.ensures)))

pub returns-in_err-word-2 : goal.returns-in_err-word-2
returns-in_err-word-2 c =
    let p = err_from_is_err_and c.from_residual-in_err-word-2.result c.from_residual-in_err-word-2.ensures.1 in
    let start = c.new-cursor.result in
    let fault = c.in_err-word-2.field-0.0 in
    rw (p.1, p.2)
    (refused start fault c.new-cursor.ensures.left c.new-cursor.ensures.passed
    (word_then (Numbered Closed) (codes "(slot ") start c.word.new.self fault c.in_ok-word.ensures
    (number_then Closed c.word.new.self c.number.new.self fault no_digit c.in_ok-slot.ensures
    (word_refused Ended (codes ")") [] c.number.new.self c.word-2.new.self fault refl c.in_err-word-2.ensures))))

pub returns-in_err-end : goal.returns-in_err-end
returns-in_err-end c =
    let p = err_from_is_err_and c.from_residual-in_err-end.result c.from_residual-in_err-end.ensures.1 in
    let start = c.new-cursor.result in
    let fault = c.in_err-end.field-0.0 in
    rw (p.1, p.2)
    (refused start fault c.new-cursor.ensures.left c.new-cursor.ensures.passed
    (word_then (Numbered Closed) (codes "(slot ") start c.word.new.self fault c.in_ok-word.ensures
    (number_then Closed c.word.new.self c.number.new.self fault no_digit c.in_ok-slot.ensures
    (word_then Ended (codes ")") c.number.new.self c.word-2.new.self fault c.in_ok-word-2.ensures
    (end_refused c.word-2.new.self fault c.in_err-end.ensures)))))
