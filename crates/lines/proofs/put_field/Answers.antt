-- `put_field` meets its contract: the word, then the digits, of which a number of 64 bits has at most 20.
-- Assumes nothing.
use mathlib.Core.Path.{ap, ◌∙◌}
use native.Mathlib.Omega.{arith}
use lib.ListN.{length}
use Rattle.lines.proofs.Adding.{then_added, same_added}
use Rattle.lines.proofs.Digits.{decimal_is, short}
use Rattle.lines.proofs.put_field.Goals as goal

pub put-requires : goal.put-requires
put-requires c =
    let n = c.args.number in
    let digits = c.decimal-size.ensures.digits ∙ decimal_is n c.decimal-size.result c.decimal-size.ensures.len in
    omega (arith, ap length digits, short 19 n (omega arith), c.put-end.ensures.few)

pub returns : goal.returns
returns c =
    let n = c.args.number in
    let digits = c.decimal-size.ensures.digits ∙ decimal_is n c.decimal-size.result c.decimal-size.ensures.len in
    then_added c.put-end.ensures (same_added (omega (arith, ap length digits, short 19 n (omega arith))) digits
    c.put.ensures)
