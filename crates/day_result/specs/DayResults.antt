-- What a day of a month comes to: a book and the order that was posted for it.
-- Rests on: the readers, the verdict on a posting, document 01's idle.
use Rattle.std.specs.Prelude.{ℕ, List, Ok, Err}
use Rattle.schedule.specs.Rows.{jobs}
use Rattle.schedule.specs.Desk.{idle_of}
use Rattle.book.specs.Rows.{refused, accepted}
use Rattle.readers.specs.declared.Terms.{Terms}
use Rattle.readers.specs.Reads.{ordering_rule, read_by}
use Rattle.outcomes.specs.Outcomes.{VerdictAnswer, verdict_outcome}
use Rattle.outcomes.specs.declared.Verdict.TheVariants as verdict
use Rattle.calls.specs.Planned.{planned}
use Rattle.day_result.specs.declared.DayResult.{DayResult}
use Rattle.day_result.specs.declared.DayResult.TheVariants.{Refused, Unbeaten, Beaten}

-- A month is judged by the ordering rule, with no opening.
abbrev pub month_terms : Terms
month_terms = ordering_rule 0

-- A verdict, with the idle minutes of the posting.
unfoldable pub result_of : (idle : ℕ) → VerdictAnswer → DayResult
result_of idle (Err refusal) = Refused
result_of idle (Ok (verdict.Unbeaten e y)) = Unbeaten idle y
result_of idle (Ok (verdict.Beaten e y k)) = Beaten idle y

-- Refused if the book is, or the posting. Otherwise the posting's idle minutes from the book's free minute on, its worst lateness, and
-- whether a listed plan beats it.
unfoldable pub day_result : (book posting : List ℕ) → DayResult
day_result book posting = elim (read_by month_terms book) [
  | refused n p ↦ Refused
  | accepted day ↦ result_of (idle_of (jobs 0 day) day.free posting) (verdict_outcome (planned month_terms day) posting)
]

-- Opens every definition of this file: name it on an `unfolding` line where all is to be computed.
unfoldable pub open_day_results : Unit {0}
unfolding result_of day_result
open_day_results = tt
