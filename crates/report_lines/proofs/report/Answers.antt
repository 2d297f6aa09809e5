-- `report` meets its contract: its lines, one after another.
use Rattle.std.proofs.Common.{refl, ap, arith}
use native.Mathlib.Nat.{le_refl}
use Rattle.lines.proofs.Adding.{then_added, same_added}
use Rattle.report_lines.specs.ReportBytes.{number_line, beaten_start, report_bytes}
use Rattle.report_lines.proofs.report.Goals as goal

pub returns : goal.returns
unfolding report_bytes
returns c =
    let beaten = same_added (le_refl 28) (ap (number_line beaten_start) c.from.ensures) c.number_line-end.ensures in
    same_added (omega arith) refl (then_added c.days_line-end.ensures
    (then_added beaten (then_added c.number_line-end-2.ensures (then_added c.late_line-end.ensures c.mean_line.ensures))))
