-- What the totals of a month hold: the report of its days so far.
-- Rests on: Report, Mean, lateness as the machine holds it.
use Rattle.std.specs.Prelude.{ℕ, ◌+◌, ◌*◌, ◌≤◌}
use Rattle.std.proofs.Math.IntN.{sub_ℕ}
use Rattle.schedule.specs.Offset.{lowered}
use Rattle.totals.specs.declared.Totals.{Totals}
use Rattle.totals.specs.declared.RaisedMean.{RaisedMean}
use Rattle.totals.specs.Report.{Report}
use Rattle.totals.specs.Mean.{Mean}

-- The days so far.
abbrev pub days : Totals → ℕ
days t = t.accepted + t.refused

-- The report: each of the latenesses that were added up is raised by 2³¹.
abbrev pub report_by : Totals → Report
report_by t = record {
  accepted = t.accepted;
  refused = t.refused;
  beaten = t.beaten;
  idle = t.idle;
  late = sub_ℕ t.late (t.accepted * 2147483648);
}

abbrev pub mean_by : RaisedMean → Mean
mean_by m = record { quotient = lowered m.quotient; remainder = m.remainder }

-- No sum of 31 days is too large: each day adds a 32-bit number at most.
pub record SumsFit (t : Totals) : Type 0 where
  pub beaten : t.beaten ≤ days t
  pub idle : t.idle ≤ 4294967295 * days t
  pub late : t.late ≤ 4294967295 * days t
