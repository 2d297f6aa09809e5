-- `put_numbers` meets its contract: a field more for each number.
use Rattle.std.proofs.Common.{◌≡◌, ◌∷◌, [], arith, ap, get_or}
use native.Mathlib.Nat.{le_refl}
use lib.Seq.{take_all}
use Rattle.lines.specs.LineBytes.{field, number_fields}
use Rattle.lines.proofs.Adding.{none_added, then_added, same_added, fewer_added}
use Rattle.lines.proofs.Digits.{short_field, next_number}
use Rattle.lines.proofs.put_numbers.Goals as goal

pub loop-number-init : goal.loop-number-init
unfolding number_fields
loop-number-init c = none_added c.args.at c.args.sheet.now (omega arith)

pub loop-number-preserved : goal.loop-number-preserved
loop-number-preserved c =
    let l = c.loop-number in
    let k = l.number-index in
    let n : c.from.result ≡ get_or c.args.numbers.now k 0 = c.from.ensures in
    let e = ap (field (32 ∷ [])) n in
    same_added (omega arith) (next_number c.args.numbers.now k (omega arith)) (then_added l.invariant
    (fewer_added (omega arith) (short_field _ (omega (arith, n))) (same_added (le_refl 21) e c.put_field-end.ensures)))

pub returns : goal.returns
returns c =
    let l = c.loop-number in
    same_added (omega arith) (ap number_fields (take_all l.number-index c.args.numbers.now (omega arith))) l.invariant
