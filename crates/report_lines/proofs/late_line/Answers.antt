-- `late_line` meets its contract: its parts, one after another.
use Rattle.std.proofs.Common.{◌*◌, arith}
use Rattle.std.proofs.Math.IntN.{sub_ℕ}
use Rattle.lines.proofs.Adding.{then_added, same_added}
use Rattle.report_lines.specs.ReportBytes.{late_line}
use Rattle.report_lines.proofs.late_line.Goals as goal

pub returns : goal.returns
returns c =
    same_added (omega arith) (λ i. late_line (sub_ℕ c.args.late (c.from.ensures i * 2147483648)))
    (then_added c.put_signed-end.ensures c.put.ensures)
