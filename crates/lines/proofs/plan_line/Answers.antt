-- `plan_line` meets its contract: its parts, one after another.
use Rattle.std.proofs.Common.{refl, ap, arith}
use native.Mathlib.Nat.{le_refl}
use Rattle.lines.specs.LineBytes.{plan_line, field, end_word}
use Rattle.lines.proofs.Adding.{then_added, same_added}
use Rattle.lines.proofs.plan_line.Goals as goal

pub returns : goal.returns
unfolding plan_line
returns c =
    let end = same_added (le_refl 25) (ap (field end_word) c.from.ensures) c.put_field-next-2.ensures in
    let front = then_added (then_added c.put_field-next.ensures end) c.put_late-next.ensures in
    let back = then_added (then_added front c.put-next.ensures) c.put_numbers-next.ensures in
    same_added (omega (arith, c.requires.0)) refl (then_added back c.put.ensures)
