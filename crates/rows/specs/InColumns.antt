-- Rows in columns: what the columns hold.
-- Rests on: the schedule.
use Rattle.std.specs.Prelude.{ℕ, ◌≤◌, ◌≡◌, List, length}
use Rattle.theory.specs.Jobs.{Job}
use Rattle.schedule.specs.Limits.{row_places}
use Rattle.schedule.specs.declared.Row.{Row}
use Rattle.schedule.specs.Rows.{row, job}
use Rattle.schedule.specs.Columns.{at, columns}
use Rattle.rows.specs.declared.Columns.{Columns}

-- The job of each row number, in columns.
abbrev pub jobs_of : Columns → ℕ → Job
jobs_of c = columns c.release c.length c.due

-- A job whose release, length and due are at most these.
abbrev pub Within : (top long late : ℕ) → Job → Type 0
Within top long late j = (j.release ≤ top) × (j.length ≤ long) × (j.due ≤ late)

-- The columns hold rows 1 to n: each has its job.
pub record InColumns (job : ℕ → Job) (n : ℕ) (c : Columns) : Type 0 where
  pub jobs : (i : ℕ) → 1 ≤ i → i ≤ n → jobs_of c i ≡ job i
  pub releases : length c.release ≡ row_places
  pub lengths : length c.length ≡ row_places
  pub dues : length c.due ≡ row_places
  -- What no row exceeds, no place does.
  pub within : (top long late : ℕ) → ((i : ℕ) → 1 ≤ i → i ≤ n → Within top long late (job i)) → (i : ℕ) →
      Within top long late (jobs_of c i)

-- A number of each row in a column of 257 places: that of row i at place i, and 0 where there is no row.
abbrev pub Column : (Row → ℕ) → List ℕ → List Row → Type 0
Column f column rows = (length column ≡ row_places) × ((i : ℕ) → at column i ≡ f (row rows i))

-- The columns hold the rows of a table, as they are: their jobs and their pages.
pub record RowsInColumns (rows : List Row) (c : Columns) : Type 0 where
  pub columns : InColumns (job rows) (length rows) c
  pub pages : Column (λ r. r.pages) c.pages rows
