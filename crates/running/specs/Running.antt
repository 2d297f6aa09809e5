-- The running desk: the opening and the rows it was opened with, with their pages, the rows left, its minute, and the worst lateness so
-- far. Its starts.
-- Rests on: the schedule's rows, the tests in sequence.
use Rattle.std.specs.Prelude.{ℕ, ◌+◌, Bool, not, ◌&&◌, ◌||◌, List, ◌∷◌, map, leb, ltb, length, get_or, ℤ}
use Rattle.std.proofs.Math.Option.{Option, none, some}
use Rattle.std.proofs.Math.IntN.{sub_ℕ}
use Rattle.theory.specs.Jobs.{Job}
use Rattle.schedule.specs.Limits.{latest_start}
use Rattle.schedule.specs.declared.Row.{Row}
use Rattle.schedule.specs.Rows.{job_of, with_opening, Day, row_numbers, stands, without}
use Rattle.schedule.specs.Desk.{max_z}
use Rattle.refusals.specs.Tests.{Tested, refuse_if, ◌then◌}
use Rattle.refusals.specs.Refusals.{by_unlisted, by_done, by_early}

-- A running desk. It keeps the opening minutes that it was opened with; `rows` is what planning sees of each row of its book, so that a
-- row takes opening plus length; `pages` has the pages of each, from which another reader's lengths come; the rows done are those that are
-- not left. The worst lateness so far is none until a row is done.
pub record Running : Type 0 where
  pub opening : ℕ
  pub rows : List Job
  pub pages : List ℕ
  pub left : List ℕ
  pub minute : ℕ
  pub worst : Option ℤ

-- What planning sees of the rows of a day, as a desk keeps them; and their pages.
abbrev pub rows_seen : (opening : ℕ) → Day → List Job
rows_seen opening day = map (λ r. with_opening opening (job_of r)) day.rows

abbrev pub pages_of : Day → List ℕ
pages_of day = map (λ (r : Row). r.pages) day.rows

-- A desk as it is opened: every row is left, at the free minute.
abbrev pub opened : (opening : ℕ) → Day → Running
opened opening day = record {
  opening = opening;
  rows = rows_seen opening day;
  pages = pages_of day;
  left = row_numbers day;
  minute = day.free;
  worst = none;
}

-- The job of a row number from 1 on. (0 is no row, and so is a number past the last.)
abbrev pub no_job : Job
no_job = record { release = 0; length = 0; due = 0 }

abbrev pub job_in : List Job → ℕ → Job
job_in rows i = get_or (no_job ∷ rows) i no_job

-- The pages of a row number.
abbrev pub pages_in : List ℕ → ℕ → ℕ
pages_in pages i = get_or (0 ∷ pages) i 0

-- A number lies between two others.
abbrev pub between : (least most : ℕ) → ℕ → Bool
between least most x = leb least x && leb x most

-- When a start of row i at the minute m is turned down: no such row, 11 with the count of all rows; started before, 14 with the row; before
-- the desk's minute or the release, or past the latest start, 15.
unfoldable pub start_tests : Running → (i m : ℕ) → Tested
start_tests d i m =
    refuse_if (not (between 1 (length d.rows) i)) by_unlisted (length d.rows) then
    refuse_if (not (stands i d.left)) by_done i then
    refuse_if (ltb m d.minute || (ltb m (job_in d.rows i).release || ltb latest_start m)) by_early 0

-- The worst lateness so far with one lateness more.
unfoldable pub worse : Option ℤ → ℤ → ℤ
worse none y = y
worse (some z) y = max_z z y

-- Row i started at the minute m: when it ends, how late it is, and the desk after it.
abbrev pub end_at : Running → (i m : ℕ) → ℕ
end_at d i m = m + (job_in d.rows i).length

abbrev pub worst_at : Running → (i m : ℕ) → ℤ
worst_at d i m = worse d.worst (sub_ℕ (end_at d i m) (job_in d.rows i).due)

abbrev pub moved : Running → (i m : ℕ) → Running
moved d i m = record {
  opening = d.opening;
  rows = d.rows;
  pages = d.pages;
  left = without i d.left;
  minute = end_at d i m;
  worst = some (worst_at d i m);
}

-- Opens every definition of this file: name it on an `unfolding` line where all is to be computed.
unfoldable pub open_running : Unit {0}
unfolding start_tests worse
open_running = tt
