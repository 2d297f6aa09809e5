-- `put_signed` meets its contract: each sign by its law.
-- Assumes nothing.
use native.Mathlib.Omega.{arith}
use Rattle.lines.proofs.Adding.{then_added, same_added}
use Rattle.lines.proofs.Signed.{field_positive, field_negative}
use Rattle.lines.proofs.put_signed.Goals as goal

pub returns-then-plus-minus : goal.returns-then-plus-minus
returns-then-plus-minus c =
    let a = c.args in
    same_added (omega arith) (field_negative a.word.now a.plus a.minus (omega arith)) (then_added c.put-end.ensures c.put_field.ensures)

pub returns : goal.returns
returns c =
    let a = c.args in
    same_added (omega arith) (field_positive a.word.now a.plus a.minus (omega arith)) c.put_field-2.ensures
