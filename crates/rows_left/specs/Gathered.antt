-- The rows left of a lent desk, numbered anew from 1 on as they stand, and in columns: what `look` gives. Only contracts cite it.
-- Rests on: Left, the words of a desk, tables filled place by place.
use Rattle.std.specs.Prelude.{ℕ, ◌+◌, ◌≤◌, Bool, true, false, ◌≡◌, List, length, get_or, Option, Some, None}
use Rattle.theory.specs.Jobs.{Job}
use Rattle.schedule.specs.Limits.{row_places}
use Rattle.schedule.specs.declared.Row.{Row}
use Rattle.schedule.specs.Rows.{job}
use Rattle.schedule.specs.Columns.{at, columns}
use Rattle.schedule.specs.Filled.{Filled, from}
use Rattle.running.specs.Words.{count_in, releases, times, dues, left_to}
use Rattle.rows_left.specs.declared.Left.{Left}
use Rattle.rows_left.specs.Left.{fit_from, plans_here}

-- The rows left, counted from 0; and what rows of these numbers, which stand from place 1 on, have in a column of the desk.
abbrev pub left_at : List ℕ → ℕ → ℕ
left_at ws k = get_or (left_to ws (count_in ws)) k 0

abbrev pub word_left : (ws : List ℕ) (before : ℕ) (rows : List ℕ) → ℕ → ℕ
word_left ws before rows k = at ws (before + at rows (k + 1))

-- What the test of rows in columns answers, from a minute on: that of any rows that have these jobs.
abbrev pub FitTested : (minute : ℕ) → (ℕ → Job) → (count : ℕ) → Bool → Type 0
FitTested minute jobs count b = (rows : List Row) → length rows ≡ count → ((i : ℕ) → 1 ≤ i → i ≤ count → jobs i ≡ job rows i) →
    b ≡ fit_from minute rows

-- What planning sees of the rows left, by their places.
abbrev pub jobs_left : Left → ℕ → Job
jobs_left left = columns left.release left.minutes left.due

-- Place k from 1 on has the k-th of the rows left, in `rows` its number and in the columns what the desk has of it.
pub record Gathered (ws : List ℕ) (left : Left) : Type 0 where
  pub counted : left.count ≡ length (left_to ws (count_in ws))
  pub numbered : Filled row_places (from 1) (left_at ws) left.count left.rows
  pub released : Filled row_places (from 1) (word_left ws releases left.rows) left.count left.release
  pub timed : Filled row_places (from 1) (word_left ws times left.rows) left.count left.minutes
  pub dated : Filled row_places (from 1) (word_left ws dues left.rows) left.count left.due

-- The whole answer of a look at lent words: the rows left, where they can be planned, and otherwise none.
abbrev pub Looked : List ℕ → Option Left → Type 0
Looked ws (Some left) = (plans_here ws ≡ true) × Gathered ws left
Looked ws None = plans_here ws ≡ false
