-- A turn as the code tells it.
-- Rests on: Turns, what the totals hold.
use Rattle.std.specs.Prelude.{ℕ, suc, ◌*◌, ◌≤◌, ◌≡◌}
use Rattle.month_input.specs.Layout.{PostedDay, size_of}
use Rattle.totals.specs.declared.Totals.{Totals}
use Rattle.totals.specs.Report.{with_day}
use Rattle.totals.specs.Held.{days, report_by, SumsFit}
use Rattle.month_step.specs.declared.Step.{Step}
use Rattle.month_step.specs.declared.Step.TheVariants.{Taken, End, Broken}
use Rattle.month_step.specs.Turns.{result_for, Next, day, ended, astray}

-- The totals with a day more, and the bytes that it takes.
pub record WithDay (t : Totals) (d : PostedDay) (r : Step) : Type 0 where
  pub totals : Totals
  pub is : r ≡ Taken totals (4 * size_of d)
  pub report : report_by totals ≡ with_day (result_for d) (report_by t)
  pub count : days totals ≡ suc (days t)

abbrev pub Stepped : Totals → Next → Step → Type 0
Stepped t (day d) r = WithDay t d r
Stepped t ended r = r ≡ End
Stepped t astray r = r ≡ Broken

-- The totals fit, and the bytes that a day takes are within the n of the window.
abbrev pub StepWithin : ℕ → Step → Type 0
StepWithin n (Taken t used) = SumsFit t × (days t ≤ 31) × (used ≤ n)
StepWithin n End = Unit {0}
StepWithin n Broken = Unit {0}
