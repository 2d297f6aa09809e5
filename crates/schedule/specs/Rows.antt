-- Rows of a table and their numbers. A row is named by its number in the table, from 1; an order is a list of such numbers.
-- Rests on: the jobs of the theory.
use Rattle.std.specs.Prelude.{ℕ, zero, suc, ◌+◌, Bool, false, cond, ◌||◌, List, [], ◌∷◌, eqb, length, get_or, None}
use Rattle.theory.specs.Jobs.{Job}
use Rattle.schedule.specs.declared.Row.{Row}

-- What stands for a row that is not there.
abbrev pub no_row : Row
no_row = record { number = 0; release = 0; length = 0; due = 0; class = None; pages = 0 }

-- The row of a number from 1 on. (0 is no row, and so is a number past the last.)
abbrev pub row : List Row → ℕ → Row
row rows i = get_or (no_row ∷ rows) i no_row

-- A row's own release, length and due.
abbrev pub job_of : Row → Job
job_of r = record { release = r.release; length = r.length; due = r.due }

abbrev pub job : List Row → ℕ → Job
job rows i = job_of (row rows i)

-- A day at the desk, as an accepted book gives it: the free minute, and the rows of the table.
pub record Day : Type 0 where
  pub free : ℕ
  pub rows : List Row

-- What planning sees of a job whose transcript takes some minutes to open: it takes opening plus length at the desk. Release and due are
-- its own. This is all that opening changes; what follows from it is in Opening.
abbrev pub with_opening : (opening : ℕ) → Job → Job
with_opening opening j = record { release = j.release; length = opening + j.length; due = j.due }

-- What planning sees of each row number of a day.
abbrev pub jobs : (opening : ℕ) → Day → ℕ → Job
jobs opening day i = with_opening opening (job day.rows i)

-- The numbers from i on, n of them; and the numbers of all rows.
unfoldable pub count_from : ℕ → ℕ → List ℕ
count_from i zero = []
count_from i (suc n) = i ∷ count_from (suc i) n

abbrev pub all_rows : List Row → List ℕ
all_rows rows = count_from 1 (length rows)

abbrev pub row_numbers : Day → List ℕ
row_numbers day = all_rows day.rows

-- A number stands in a list.
unfoldable pub stands : ℕ → List ℕ → Bool
stands n [] = false
stands n (m ∷ ms) = eqb n m || stands n ms

-- A list without the first place where i stands; and without each of the first list.
unfoldable pub without : ℕ → List ℕ → List ℕ
without i [] = []
without i (j ∷ js) = cond (eqb i j) js (j ∷ without i js)

unfoldable pub without_all : List ℕ → List ℕ → List ℕ
without_all [] left = left
without_all (i ∷ is) left = without_all is (without i left)

-- Opens every definition of this file: name it on an `unfolding` line where all is to be computed.
unfoldable pub open_rows : Unit {0}
unfolding count_from stands without without_all
open_rows = tt
