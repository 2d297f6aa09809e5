-- What is promised of a month holds. Assumes nothing.
use Prim.Native.Nat.{ℕ, ◌+◌, ◌≤◌}
use native.Mathlib.Omega.{arith}
use mathlib.Core.Path.{◌≡◌, refl, sym, ap, ◌∙◌}
use mathlib.Core.List.{List, [], ◌∷◌, map, Permᴰ}
use mathlib.Core.Logic.{◌↔◌}
use mathlib.Core.Option.{Option, none, some}
use lib.ListN.{length, get_or}
use Rattle.day_result.specs.declared.DayResult.{DayResult}
use Rattle.day_result.specs.declared.DayResult.TheVariants.{Refused, Unbeaten, Beaten}
use Rattle.totals.specs.Report.{Report, with_day, report_of}
use Rattle.totals.proofs.Report.{any_order}
use Rattle.totals.proofs.Mean.{only_mean}
use Rattle.month_input.specs.Layout.{PostedDay, month_in}
use Rattle.month_input.specs.WrittenMonth.{Below, InLayout}
use Rattle.month_input.proofs.WrittenMonth.{written_and_read}
use Rattle.report_lines.specs.ReportBytes.{report_bytes, refused_bytes}
use Rattle.month_step.specs.Turns.{result_for}
use Rattle.month_promises.specs.Shown.{month_report, lines_of, shown}
use Rattle.month_promises.specs.Promise.{MonthPromise}
use Rattle.month_promises.proofs.Streamed.{streamed}
use Rattle.month_promises.proofs.Days.{each_day}

-- Every day is counted once.
one_day : (d : DayResult) (r : Report) →
    ((with_day d r).accepted + (with_day d r).refused ≡ 1 + (r.accepted + r.refused)) ×
    (r.beaten ≤ r.accepted → (with_day d r).beaten ≤ (with_day d r).accepted)
one_day Refused r = (omega arith, λ h. omega arith)
one_day (Unbeaten i y) r = (omega arith, λ h. omega arith)
one_day (Beaten i y) r = (omega arith, λ h. omega arith)

all_days : (days : List PostedDay) →
    ((month_report days).accepted + (month_report days).refused ≡ length days) × ((month_report days).beaten ≤ (month_report days).accepted)
unfolding report_of
all_days [] = (omega arith, omega arith)
all_days (d ∷ days) =
    let h = all_days days in
    let o = one_day (result_for d) (month_report days) in
    (omega (arith, h.0, o.0), o.1 h.1)

-- Days in another order have their results in another order.
results_moved : {days others : List PostedDay} → Permᴰ days others → Permᴰ (map result_for days) (map result_for others)
results_moved Permᴰ.nil = Permᴰ.nil
results_moved (Permᴰ.cons e p) = Permᴰ.cons (ap result_for e) (results_moved p)
results_moved (Permᴰ.swap e f) = Permᴰ.swap (ap result_for e) (ap result_for f)
results_moved (Permᴰ.trans p q) = Permᴰ.trans (results_moved p) (results_moved q)

moved : (days others : List PostedDay) → Permᴰ days others → month_report days ≡ month_report others
moved days others p = any_order (map result_for days) (map result_for others) (results_moved p)

-- The lines of a report begin with a `d`, and `refused` does not.
report_starts : (r : Report) → get_or (report_bytes r) 0 0 ≡ 100
unfolding report_bytes
report_starts r = refl

lines : (input : List ℕ) (days : List PostedDay) → Below 256 input → InLayout input days → shown input ≡ report_bytes (month_report days)
unfolding lines_of
lines input days b l = ap lines_of ((written_and_read input days b).1 l)

no_month : (input : List ℕ) → Below 256 input → (shown input ≡ refused_bytes) ↔ ((days : List PostedDay) → ¬ InLayout input days)
unfolding lines_of
no_month input b = (there, λ none_there. back none_there (month_in input) refl)
  where
    there : shown input ≡ refused_bytes → (days : List PostedDay) → ¬ InLayout input days
    there e days l =
        omega (arith, sym (report_starts (month_report days)) ∙ ap (λ (bs : List ℕ). get_or bs 0 0) (sym (lines input days b l) ∙ e))

    back : ((days : List PostedDay) → ¬ InLayout input days) → (o : Option (List PostedDay)) → month_in input ≡ o →
        shown input ≡ refused_bytes
    back h none e = ap lines_of e
    back h (some days) e = absurd (h days ((written_and_read input days b).0 e))

pub month_holds : MonthPromise
month_holds = record {
  each_day = each_day;
  all_days = all_days;
  any_order = moved;
  mean = only_mean;
  layout = written_and_read;
  lines = lines;
  no_month = no_month;
  same_lines = λ input other days others b c l m p.
      lines input days b l ∙ (ap report_bytes (moved days others p) ∙ sym (lines other others c m));
  one_at_a_time = streamed;
}
