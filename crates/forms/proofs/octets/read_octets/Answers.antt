use Rattle.std.proofs.Common.{sym, arith}
use Rattle.std.proofs.lemmas.Result.{err_from_is_err_and}
use Rattle.std.proofs.lemmas.Bool.{eqb-false}
use Rattle.forms.proofs.OctetTexts.{no_octet, no_space, octet_more, one_more, all_read, spaced, start}
use Rattle.forms.proofs.octets.read_octets.Goals as goal
use Rattle.forms.proofs.octets.read_octets.Goals.{else-loop-place-test, then-loop-place-test+else-text-place-ne32+in_ok-octet_at-2+in_ok-push-2+else-place-end-place-gt3}

pub returns-in_err-octet_at : goal.returns-in_err-octet_at
returns-in_err-octet_at c =
    let p = err_from_is_err_and c.from_residual.result c.from_residual.ensures.1 in
    let text = c.args.text.now in
    rw (p.1, p.2) (no_octet text _ 0 (start text (eqb-false _ 0 (sym c.if-is_empty.ensures))) _ c.in_err-octet_at.ensures)

pub loop-place-init : goal.loop-place-init
loop-place-init c =
    let text = c.args.text.now in
    octet_more text _ _ 0 2 _ (start text (eqb-false _ 0 (sym c.if-is_empty.ensures))) c.in_ok-octet_at.ensures
    (rw c.new-octets.ensures.items at c.in_ok-push.ensures.items) (omega arith)

pub returns-then-text-place-ne32 : goal.returns-then-text-place-ne32
returns-then-text-place-ne32 c = no_space _ _ _ c.loop-place.invariant c.loop-place-test.true c.if-text-place-ne32.true

pub returns-in_err-octet_at-2 : goal.returns-in_err-octet_at-2
returns-in_err-octet_at-2 c =
    let p = err_from_is_err_and c.from_residual-in_err-octet_at-2.result c.from_residual-in_err-octet_at-2.ensures.1 in
    let sofar = spaced _ _ _ c.loop-place.invariant c.loop-place-test.true c.if-text-place-ne32.false in
    rw (p.1, p.2) (no_octet _ _ _ sofar _ c.in_err-octet_at-2.ensures)

pub loop-place-preserved : goal.loop-place-preserved
loop-place-preserved c =
    one_more _ _ _ c.loop-place.invariant c.loop-place-test.true c.if-text-place-ne32.false _ _ c.in_ok-octet_at-2.ensures c.in_ok-push-2.ensures.items

pub returns : goal.returns
returns c =
    elim c.loop-place-test.branch [
      | else-loop-place-test w ↦ rw w.octets-is (all_read _ _ _ c.loop-place.invariant w.loop-place-test.false)
      | then-loop-place-test+else-text-place-ne32+in_ok-octet_at-2+in_ok-push-2+else-place-end-place-gt3 w ↦
          let stands = one_more _ _ _ c.loop-place.invariant w.loop-place-test.true w.if-text-place-ne32.false _ _ w.in_ok-octet_at-2.ensures w.in_ok-push-2.ensures.items in
          rw w.octets-is (all_read _ _ _ stands (omega arith))
    ]
