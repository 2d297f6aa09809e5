-- `mean_line` meets its contract: no mean of no day, or its line.
-- Assumes nothing.
use native.Mathlib.Omega.{arith}
use mathlib.Core.Path.{ap, ◌∙◌}
use Rattle.lines.proofs.Adding.{none_added, same_added}
use Rattle.report_lines.specs.ReportBytes.{mean_fields}
use Rattle.report_lines.proofs.Means.{no_mean, a_mean}
use Rattle.report_lines.proofs.mean_line.Goals as goal

pub returns-then-totals-eq0 : goal.returns-then-totals-eq0
returns-then-totals-eq0 c =
    same_added (omega arith) (no_mean _ c.args.totals.accepted (omega arith))
    (none_added c.args.at c.args.sheet.now (omega arith))

pub returns : goal.returns
returns c =
    same_added (omega arith) (ap mean_fields c.mean.ensures ∙ a_mean _ c.args.totals.accepted (omega arith))
    c.mean_fields.ensures
