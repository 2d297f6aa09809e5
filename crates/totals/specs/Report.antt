-- The report of a month: what its days come to, added up.
-- Rests on: what a day comes to.
use Rattle.std.specs.Prelude.{ℕ, ◌+◌, ◌≡◌, ℤ, pos, ◌+ℤ◌}
use mathlib.Core.List.{List, [], ◌∷◌, Permᴰ}
use Rattle.day_result.specs.declared.DayResult.{DayResult}
use Rattle.day_result.specs.declared.DayResult.TheVariants.{Refused, Unbeaten, Beaten}

-- Accepted and refused days, beaten postings among the accepted, and the total idle minutes and total worst lateness of accepted postings.
pub record Report : Type 0 where
  pub accepted : ℕ
  pub refused : ℕ
  pub beaten : ℕ
  pub idle : ℕ
  pub late : ℤ

-- What a day adds to each of these.
abbrev pub accepted_by : DayResult → ℕ
accepted_by Refused = 0
accepted_by (Unbeaten idle late) = 1
accepted_by (Beaten idle late) = 1

abbrev pub refused_by : DayResult → ℕ
refused_by Refused = 1
refused_by (Unbeaten idle late) = 0
refused_by (Beaten idle late) = 0

abbrev pub beaten_by : DayResult → ℕ
beaten_by Refused = 0
beaten_by (Unbeaten idle late) = 0
beaten_by (Beaten idle late) = 1

abbrev pub idle_by : DayResult → ℕ
idle_by Refused = 0
idle_by (Unbeaten idle late) = idle
idle_by (Beaten idle late) = idle

abbrev pub late_by : DayResult → ℤ
late_by Refused = pos 0
late_by (Unbeaten idle late) = late
late_by (Beaten idle late) = late

abbrev pub with_day : DayResult → Report → Report
with_day d r = record {
  accepted = accepted_by d + r.accepted;
  refused = refused_by d + r.refused;
  beaten = beaten_by d + r.beaten;
  idle = idle_by d + r.idle;
  late = late_by d +ℤ r.late;
}

-- The report of some days.
unfoldable pub report_of : List DayResult → Report
report_of [] = record { accepted = 0; refused = 0; beaten = 0; idle = 0; late = pos 0 }
report_of (d ∷ ds) = with_day d (report_of ds)

-- It is the same for every order of the days. The proof is `any_order`, in proofs/Report.antt.
abbrev pub AnyOrder : Type 0
AnyOrder = (ds es : List DayResult) → Permᴰ ds es → report_of ds ≡ report_of es

-- Opens every definition of this file: name it on an `unfolding` line where all is to be computed.
unfoldable pub open_report : Unit {0}
unfolding report_of
open_report = tt
