-- `days_line` meets its contract: its parts, one after another.
use Rattle.std.proofs.Common.{◌++◌, arith}
use Rattle.lines.specs.LineBytes.{field}
use Rattle.lines.proofs.Adding.{then_added, same_added}
use Rattle.report_lines.specs.ReportBytes.{days_start, accepted_word, refused_word, number_line}
use Rattle.report_lines.proofs.days_line.Goals as goal

pub returns : goal.returns
returns c =
    same_added (omega arith)
    (λ i. field days_start (c.from.ensures i) ++ (field accepted_word (c.from-2.ensures i) ++ number_line refused_word (c.from-3.ensures i)))
    (then_added c.put_field-end.ensures (then_added c.put_field-end-2.ensures c.number_line.ensures))
