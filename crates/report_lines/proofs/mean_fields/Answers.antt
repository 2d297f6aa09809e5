-- `mean_fields` meets its contract: its parts, one after another.
-- Assumes nothing.
use native.Mathlib.Omega.{arith}
use mathlib.Core.Path.{refl}
use Rattle.lines.proofs.Adding.{then_added, same_added}
use Rattle.report_lines.proofs.mean_fields.Goals as goal

pub returns : goal.returns
returns c =
    same_added (omega arith) refl
    (then_added c.put_signed-end.ensures
    c.number_line.ensures)
