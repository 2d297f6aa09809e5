-- A change of pace on a lent desk, as another reader sits down: what the rows left then take, when the change is turned down, the words
-- after it, and the whole outcome of the call. A run that holds no desk with its pages is refused 3 at 0.
-- Rests on: the running desk and its words, the rows left, the length of a row (row_reader), the rule of rows (readers), what a call gives
-- (outcomes).
use Rattle.std.specs.Prelude.{ℕ, ◌+◌, ◌/◌, true, false, not, cond, List, ◌∷◌, map, eqb, length, get_or, Ok, Err}
use Rattle.theory.specs.Jobs.{Job}
use Rattle.schedule.specs.Limits.{least_pace, most_pace}
use Rattle.schedule.specs.declared.Row.{Row}
use Rattle.schedule.specs.declared.Profile.TheVariants.{Ordering}
use Rattle.schedule.specs.Rows.{with_opening, count_from, stands}
use Rattle.schedule.specs.Columns.{at}
use Rattle.refusals.specs.Tests.{Tested, refusal_at, refuse_if, ◌then◌}
use Rattle.refusals.specs.Refusals.{by_range}
use Rattle.pairs.specs.Pairs.{number_word}
use Rattle.row_reader.specs.NearestMinute.{length_of}
use Rattle.readers.specs.Rules.{rule_tests}
use Rattle.outcomes.specs.Planning.{Outcome, gives}
use Rattle.running.specs.Running.{Running, job_in, pages_in, between}
use Rattle.running.specs.Words.{count_in, opening_in, times, marks, pages, running, keeps_pages, put}
use Rattle.rows_left.specs.Left.{plain_rows}

-- The answer to a change of pace: the desk goes on under it, or the refusal.
abbrev pub PaceAnswer : Type 0
PaceAnswer = Tested

-- A row as a reader of this pace takes it: its length comes from its pages, to the nearest minute. Its release and due are what they
-- were: a class due is not worked out again.
abbrev pub job_by_pace : Running → (pace : ℕ) → ℕ → Job
job_by_pace d pace i =
    record { release = (job_in d.rows i).release; length = length_of (pages_in d.pages i) pace; due = (job_in d.rows i).due }

-- What planning sees of a row after the change: a row left takes opening plus its new length, and a row done is as it was.
abbrev pub seen_by_pace : Running → (pace : ℕ) → ℕ → Job
seen_by_pace d pace i = cond (stands i d.left) (with_opening d.opening (job_by_pace d pace i)) (job_in d.rows i)

-- The desk after the change. Its minute and the worst lateness so far do not move.
abbrev pub repaced : Running → (pace : ℕ) → Running
repaced d pace = record {
  opening = d.opening;
  rows = map (seen_by_pace d pace) (count_from 1 (length d.rows));
  pages = d.pages;
  left = d.left;
  minute = d.minute;
  worst = d.worst;
}

-- The rows left, and they alone, by their new lengths; opening does not count.
abbrev pub left_by_pace : Running → (pace : ℕ) → List Row
left_by_pace d pace = plain_rows (job_by_pace d pace) d.left

-- A refusal that tells the number word of the k-th of the rows left, told at that row's own number word.
unfoldable pub placed_back : (left : List ℕ) → Tested → Tested
placed_back left (Ok _) = Ok tt
placed_back left (Err refusal) = Err (refusal_at refusal.number (number_word (get_or (0 ∷ left) ((refusal.place + 2) / 4) 0)))

-- When a change is turned down: a pace outside the limits of a book, 3 at 0; two rows left disagree, 8 at the number word of the earliest
-- that disagrees with a row left above it.
unfoldable pub pace_tests : Running → (pace : ℕ) → Tested
pace_tests d pace =
    refuse_if (not (between least_pace most_pace pace)) by_range 0 then
    placed_back d.left (rule_tests Ordering (left_by_pace d pace))

-- The words after the change: a row left has its new time, and every other word is as it was.
abbrev pub time_by_pace : List ℕ → (pace : ℕ) → ℕ → ℕ
time_by_pace ws pace i =
    cond (eqb (at ws (marks + i)) 0) (opening_in ws + length_of (at ws (pages + i)) pace) (at ws (times + i))

abbrev pub repaced_words : List ℕ → (pace : ℕ) → List ℕ
repaced_words ws pace = put (times + 1) (map (time_by_pace ws pace) (count_from 1 (count_in ws))) ws

-- A change on the words of a running desk, and on any words.
unfoldable pub pace_outcome : List ℕ → Running → (pace : ℕ) → Outcome PaceAnswer
pace_outcome ws d pace = elim (pace_tests d pace) [
  | Err refusal ↦ gives (Err refusal) ws
  | Ok _ ↦ gives (Ok tt) (repaced_words ws pace)
]

unfoldable pub pace_call : (desk : List ℕ) → (pace : ℕ) → Outcome PaceAnswer
pace_call ws pace = elim (keeps_pages ws) [
  | false ↦ gives (Err (refusal_at by_range 0)) ws
  | true ↦ pace_outcome ws (running ws) pace
]

-- Opens every definition of this file: name it on an `unfolding` line where all is to be computed.
unfoldable pub open_paces : Unit {0}
unfolding placed_back pace_tests pace_outcome pace_call
open_paces = tt
