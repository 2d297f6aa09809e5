-- What is promised of the report of a month, whatever the input, the books and the postings. The proof is `month_holds`, in
-- proofs/Promise.antt. That `month` makes these turns and prints these bytes is in the contracts of `month_step` and `report_lines`.
-- Rests on: Shown, Streamed, the layout, the mean, the vocabulary of the promises.
use Rattle.std.specs.Prelude.{ℕ, ◌+◌, ◌≤◌, ◌≡◌, ◌↔◌, length}
use mathlib.Core.List.{List, Permᴰ}
use Rattle.schedule.specs.Rows.{Day, jobs}
use Rattle.schedule.specs.Desk.{idle_of}
use Rattle.schedule.specs.Plans.{Beats}
use Rattle.outcomes.specs.Planning.{Planning}
use Rattle.calls.specs.Planned.{planned}
use Rattle.promises.specs.Vocabulary.{ReaderOrder, late_by, pair_by, NoneBeats, Takes}
use Rattle.day_result.specs.declared.DayResult.{DayResult}
use Rattle.day_result.specs.declared.DayResult.TheVariants.{Refused, Unbeaten, Beaten}
use Rattle.day_result.specs.DayResults.{month_terms}
use Rattle.totals.specs.Mean.{OnlyMean}
use Rattle.month_input.specs.Layout.{PostedDay}
use Rattle.month_input.specs.WrittenMonth.{Below, InLayout, WrittenAndRead}
use Rattle.report_lines.specs.ReportBytes.{report_bytes, refused_bytes}
use Rattle.month_step.specs.Turns.{result_for}
use Rattle.month_promises.specs.Shown.{month_report, shown}
use Rattle.month_promises.specs.Streamed.{Streamed}

-- # A day
-- The book is accepted by the ordering rule with opening 0 and gives a day, and the posting is an order of its rows.
pub record AcceptedPosting (d : PostedDay) : Type 0 where
  pub day : Day
  pub takes : Takes month_terms d.book day
  pub order : ReaderOrder (planned month_terms day) d.posting

module _ (d : PostedDay) (a : AcceptedPosting d) where
  abbrev pub planning : Planning
  planning = planned month_terms a.day

  -- Document 01's idle minutes of the posted order.
  abbrev pub idle : ℕ
  idle = idle_of (jobs 0 a.day) a.day.free d.posting

-- A day counts as refused exactly if its book or its posting is refused, and as beaten exactly if some order of the rows ends no later and
-- is no later at worst, one of them less. Its idle minutes and worst lateness are those of the posted order.
pub data CountsAs (d : PostedDay) : DayResult → Type 0 where
  refused : ¬ AcceptedPosting d → CountsAs d Refused
  unbeaten : (a : AcceptedPosting d) → NoneBeats (planning d a) (pair_by (planning d a) d.posting) →
      CountsAs d (Unbeaten (idle d a) (late_by (planning d a) d.posting))
  beaten : (a : AcceptedPosting d) (other : List ℕ) → ReaderOrder (planning d a) other →
      Beats (pair_by (planning d a) other) (pair_by (planning d a) d.posting) →
      CountsAs d (Beaten (idle d a) (late_by (planning d a) d.posting))

-- # The month
pub record MonthPromise : Type 0 where
  pub each_day : (d : PostedDay) → CountsAs d (result_for d)
  -- Every day is counted once, as accepted or as refused, and only accepted days as beaten.
  pub all_days : (days : List PostedDay) →
      ((month_report days).accepted + (month_report days).refused ≡ length days) × ((month_report days).beaten ≤ (month_report days).accepted)
  -- The report is the same for every order of the days.
  pub any_order : (days others : List PostedDay) → Permᴰ days others → month_report days ≡ month_report others
  -- The mean's quotient and remainder are the only ones there are.
  pub mean : OnlyMean
  -- # The input and the lines
  -- Days are read of an input exactly if it is these days in the layout.
  pub layout : WrittenAndRead
  -- Of 0 to 31 days in the layout the lines of their report are printed, and of any other input the one line `refused`, exactly if.
  pub lines : (input : List ℕ) (days : List PostedDay) → Below 256 input → InLayout input days →
      shown input ≡ report_bytes (month_report days)
  pub no_month : (input : List ℕ) → Below 256 input → (shown input ≡ refused_bytes) ↔ ((days : List PostedDay) → ¬ InLayout input days)
  -- So the days of a month in any order print the same.
  pub same_lines : (input other : List ℕ) (days others : List PostedDay) → Below 256 input → Below 256 other → InLayout input days →
      InLayout other others → Permᴰ days others → shown input ≡ shown other
  -- One day at a time comes to the same as all at once.
  pub one_at_a_time : Streamed
