-- Tables and their rows: what an array holds, and a table with one row more.
-- Assumes nothing.
use Prim.Native.Nat.{ℕ, suc, ◌+◌, ◌-◌, ◌≤◌, ◌<◌}
use native.Mathlib.Omega.{arith}
use native.Mathlib.Numerals.{add-one}
use mathlib.Core.Path.{◌≡◌, refl, sym, ap, ◌∙◌}
use mathlib.Core.List.{List, [], ◌∷◌, ◌++◌, append_assoc, map-append}
use lib.ListN.{length, take, drop, set, get_or, replicate, length-take, length-drop, length-append, length-replicate, length-set}
use lib.Seq.{get_or-take, take-suc-set, set_at, take_all, take-append_seam}
use Rattle.schedule.specs.Limits.{most_rows}
use Rattle.schedule.specs.declared.Row.{Row}
use Rattle.schedule.specs.Rows.{no_row, Day}
use Rattle.book.specs.declared.Table.{Table}
use Rattle.row_reader.specs.RowWords.{numbers_of}
use Rattle.book.specs.Rows.{day_of}
use Rattle.book.specs.Tables.{table_of, table_rows}

-- The rows of a table.
pub rows_length : (t : Table) → t.count ≤ most_rows → length t.rows ≡ most_rows → length (table_rows t) ≡ t.count
rows_length t h w = omega (arith, length-take t.count t.rows)

pub row_at : (t : Table) (i : ℕ) → i < t.count → get_or (table_rows t) i no_row ≡ get_or t.rows i no_row
row_at t i h = get_or-take t.count t.rows i no_row h

-- The table of some rows: 256 places, and the rows back again.
pub table_places : (day : Day) → length day.rows ≤ most_rows → length (table_of day).rows ≡ most_rows
unfolding table_of
table_places day h = omega (
  arith,
  length-append day.rows (replicate (most_rows - length day.rows) no_row),
  length-replicate (most_rows - length day.rows) no_row,
)

pub table_rows_lem : (day : Day) → table_rows (table_of day) ≡ day.rows
unfolding table_of
table_rows_lem day = take-append_seam day.rows (replicate (most_rows - length day.rows) no_row)

-- A table that is filled so far: its rows stand in front, no row in the places after them.
pub record Filled (free : ℕ) (t : Table) : Type 0 where
  pub few : t.count ≤ most_rows
  pub laid : t ≡ table_of (day_of free (table_rows t))

pub filled_start : (free : ℕ) → Filled free (table_of (day_of free []))
unfolding table_of
filled_start free = record { few = omega arith; laid = refl }

-- One row more.
abbrev pub pushed : Table → Row → Table
pushed t r = record { free = t.free; count = t.count + 1; rows = set t.rows t.count r }

laid_on : (xs : List Row) (n k : ℕ) (r : Row) → length xs ≡ n →
    set (xs ++ replicate (suc k) no_row) n r ≡ (xs ++ (r ∷ [])) ++ replicate k no_row
laid_on xs n k r h = set_at xs no_row (replicate k no_row) r n h ∙ sym (append_assoc xs (r ∷ []) (replicate k no_row))

module _ {free : ℕ} {t : Table} (f : Filled free t) where
  pub filled_places : length t.rows ≡ most_rows
  filled_places =
      let l : length (table_rows t) ≤ most_rows = omega (arith, length-take t.count t.rows, f.few) in
      ap (λ (u : Table). length u.rows) f.laid ∙ table_places (day_of free (table_rows t)) l

  pub filled_size : length (table_rows t) ≡ t.count
  filled_size = rows_length t f.few filled_places

  module _ (r : Row) (room : t.count < most_rows) where
    pub pushed_rows_lem : table_rows (pushed t r) ≡ table_rows t ++ (r ∷ [])
    pushed_rows_lem =
        let l : t.count < length t.rows = omega (arith, filled_places) in
        rw add-one (take-suc-set t.rows t.count r l)

    pub filled_on : Filled free (pushed t r)
    unfolding table_of
    filled_on =
        let rows = table_rows t ++ (r ∷ []) in
        let size : length rows ≡ t.count + 1 = omega (arith, filled_size, length-append (table_rows t) (r ∷ [])) in
        let left : most_rows - length (table_rows t) ≡ suc (most_rows - length rows) = omega (arith, filled_size) in
        let free_is : t.free ≡ free = ap (λ (u : Table). u.free) f.laid in
        let was : t.rows ≡ table_rows t ++ replicate (suc (most_rows - length rows)) no_row =
        ap (λ (u : Table). u.rows) f.laid ∙ ap (λ (n : ℕ). table_rows t ++ replicate n no_row) left in
        let now_is : set t.rows t.count r ≡ rows ++ replicate (most_rows - length rows) no_row =
        ap (λ (l : List Row). set l t.count r) was ∙ laid_on (table_rows t) t.count (most_rows - length rows) r filled_size in
        record { few = omega arith; laid = rw pushed_rows_lem (cc) }

-- The column of order numbers beside a table.
pub record Column (numbers : List ℕ) (t : Table) : Type 0 where
  pub places : length numbers ≡ most_rows
  pub same : take t.count numbers ≡ numbers_of (table_rows t)

pub column_start : (free : ℕ) → Column (replicate most_rows 0) (table_of (day_of free []))
unfolding table_of
column_start free = record { places = length-replicate {A = ℕ} most_rows 0; same = refl }

pub column_on : {free : ℕ} {t : Table} {numbers : List ℕ} (r : Row) → Filled free t → t.count < most_rows → Column numbers t →
    Column (set numbers t.count r.number) (pushed t r)
column_on {free} {t} {numbers} r f room k =
    let l : t.count < length numbers = omega (arith, k.places) in
    record {
      places = simp length-set k.places;
      same =
          rw (pushed_rows_lem f r room, map-append (λ (q : Row). q.number) (table_rows t) (r ∷ []), ← k.same)
          (rw add-one (take-suc-set numbers t.count r.number l));
    }

-- A part from k to the end.
pub part_end : (k : ℕ) (ws : List ℕ) → take (length ws - k) (drop k ws) ≡ drop k ws
part_end k ws = take_all (length ws - k) (drop k ws) (omega (arith, length-drop k ws))
