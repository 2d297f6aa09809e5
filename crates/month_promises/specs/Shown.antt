-- All that `month` prints of an input, byte by byte.
-- Rests on: the layout, what a day comes to, the report, its lines.
use Rattle.std.specs.Prelude.{ℕ, List, map}
use Rattle.std.proofs.Math.Option.{Option, none, some}
use Rattle.month_input.specs.Layout.{PostedDay, month_in}
use Rattle.totals.specs.Report.{Report, report_of}
use Rattle.report_lines.specs.ReportBytes.{report_bytes, refused_bytes}
use Rattle.month_step.specs.Turns.{result_for}

-- The report of some days.
abbrev pub month_report : List PostedDay → Report
month_report days = report_of (map result_for days)

-- The lines of the report of the days; or, of an input that is not 0 to 31 whole days, the one line `refused`.
unfoldable pub lines_of : Option (List PostedDay) → List ℕ
lines_of none = refused_bytes
lines_of (some days) = report_bytes (month_report days)

abbrev pub shown : List ℕ → List ℕ
shown input = lines_of (month_in input)

-- Opens every definition of this file: name it on an `unfolding` line where all is to be computed.
unfoldable pub open_shown : Unit {0}
unfolding lines_of
open_shown = tt
