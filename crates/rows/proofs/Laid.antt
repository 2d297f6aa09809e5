-- Rows taken apart into columns, row by row.
-- Assumes nothing.
use Prim.Native.Nat.{ℕ, zero, suc, ◌+◌, ◌≤◌, ◌<◌}
use native.Mathlib.Omega.{arith}
use native.Mathlib.Decide.{dec_le}
use mathlib.Core.Path.{◌≡◌, refl, sym, subst}
use mathlib.Core.List.{List, []}
use lib.ListN.{length, take, get_or, set, replicate, get_or-eq_default}
use Rattle.schedule.specs.Limits.{most_rows, row_places}
use Rattle.schedule.specs.declared.Row.{Row}
use Rattle.schedule.specs.Rows.{no_row, job}
use Rattle.rows.specs.declared.Columns.{Columns}
use Rattle.rows.specs.InColumns.{jobs_of, Within, Column, RowsInColumns}
use Rattle.rows.proofs.Column.{column_none, column_more}

abbrev pub release_of : Row → ℕ
release_of r = r.release

abbrev pub length_of : Row → ℕ
length_of r = r.length

abbrev pub due_of : Row → ℕ
due_of r = r.due

abbrev pub pages_of : Row → ℕ
pages_of r = r.pages

-- The columns as the loop leaves them: the job and the pages of each row at its number, and nothing at every other place.
pub record Laid (rows : List Row) (c : Columns) : Type 0 where
  pub releases : Column release_of c.release rows
  pub lengths : Column length_of c.length rows
  pub dues : Column due_of c.due rows
  pub pages : Column pages_of c.pages rows

-- Columns of nothing.
abbrev pub no_columns : Columns
no_columns = record {
  release = replicate row_places 0;
  length = replicate row_places 0;
  due = replicate row_places 0;
  pages = replicate row_places 0;
}

-- The columns with one row more, at its number.
abbrev pub with_row : Columns → ℕ → Row → Columns
with_row c i r = record {
  release = set c.release i r.release;
  length = set c.length i r.length;
  due = set c.due i r.due;
  pages = set c.pages i r.pages;
}

pub laid_none : Laid [] no_columns
laid_none = record {
  releases = column_none release_of refl;
  lengths = column_none length_of refl;
  dues = column_none due_of refl;
  pages = column_none pages_of refl;
}

pub laid_more : (rows : List Row) (n : ℕ) (c : Columns) (r : Row) → n < most_rows → r ≡ get_or rows n no_row → Laid (take n rows) c →
    Laid (take (n + 1) rows) (with_row c (n + 1) r)
laid_more rows n c r h e a = record {
  releases = column_more release_of c.release rows n r h e a.releases;
  lengths = column_more length_of c.length rows n r h e a.lengths;
  dues = column_more due_of c.due rows n r h e a.dues;
  pages = column_more pages_of c.pages rows n r h e a.pages;
}

-- They hold the rows.
module _ {rows : List Row} {c : Columns} (a : Laid rows c) where
  same : (i : ℕ) → jobs_of c i ≡ job rows i
  same i = λ j. record { release = a.releases.1 i j; length = a.lengths.1 i j; due = a.dues.1 i j }

  within : (top long late : ℕ) → ((i : ℕ) → 1 ≤ i → i ≤ length rows → Within top long late (job rows i)) → (i : ℕ) →
      Within top long late (jobs_of c i)
  within top long late h i = subst (Within top long late) (sym (same i)) (go i)
    where
      go : (i : ℕ) → Within top long late (job rows i)
      go zero = (omega arith, omega arith, omega arith)
      go (suc i) = step (dec_le (suc i) (length rows))
        where
          step : Dec (suc i ≤ length rows) → Within top long late (job rows (suc i))
          step (yes l) = h (suc i) (omega arith) l
          step (no l) = let past : length rows ≤ i = omega arith in
              rw (get_or-eq_default rows no_row past) ((omega arith, omega arith, omega arith))

  pub in_columns : RowsInColumns rows c
  in_columns = record {
    columns =
        record { jobs = λ i l m. same i; releases = a.releases.0; lengths = a.lengths.0; dues = a.dues.0; within = within };
    pages = a.pages;
  }
