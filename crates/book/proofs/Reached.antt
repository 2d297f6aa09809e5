-- How far the rows of a book are read: one turn of the row loop.
-- Assumes nothing.
use Rattle.std.specs.Prelude.{Ok, Err}
use Prim.Native.Nat.{ℕ, suc, ◌+◌, ◌-◌, ◌*◌, ◌<◌}
use native.Mathlib.Omega.{arith}
use mathlib.Core.Bool.{true, false}
use mathlib.Core.Path.{◌≡◌, refl, ap, ◌∙◌}
use mathlib.Core.List.{List, [], ◌∷◌, ◌++◌}
use lib.ListN.{length, take, drop, set, replicate, length-map}
use Rattle.schedule.specs.Limits.{most_rows}
use Rattle.schedule.specs.declared.Row.{Row}
use Rattle.refusals.specs.Tests.{Tested}
use Rattle.book.specs.declared.Table.{Table}
use Rattle.refusals.specs.declared.Refusal.{Refusal}
use Rattle.row_reader.specs.RowWords.{numbers_of, row_tests, row_of}
use Rattle.row_reader.specs.Cited.{row_read_of}
use Rattle.book.specs.Rows.{accepted, day_of, refused_or, end_stands, end_tests, tried_rows, read_rows}
use Rattle.book.specs.Tables.{table_of, table_rows, reading_of}
use Rattle.refusals.proofs.Tests.{never}
use Rattle.row_reader.proofs.Tests.{row_fits}
use Rattle.book.proofs.Tables.{Filled, filled_start, filled_size, filled_on, Column, column_start, column_on, pushed, pushed_rows_lem}

-- The row reader's answer, taken apart.
pub whole_tests : (o : Tested) (r q : Row) → Ok q ≡ row_read_of o r → o ≡ Ok tt
unfolding row_read_of
whole_tests (Ok _) r q e = refl
whole_tests (Err refusal) r q e = never (cc)

pub whole_row : (o : Tested) (r q : Row) → Ok q ≡ row_read_of o r → q ≡ r
unfolding row_read_of
whole_row (Ok _) r q e = cc
whole_row (Err refusal) r q e = never (cc)

pub refused_tests : (o : Tested) (r : Row) (refusal : Refusal) → Err refusal ≡ row_read_of o r → o ≡ Err refusal
unfolding row_read_of
refused_tests (Ok _) r refusal e = never (cc)
refused_tests (Err told) r refusal e = cc

-- One step of the rows: the end, or a row.
module _ (more free pace : ℕ) (rows : List Row) (place : ℕ) (ws : List ℕ) where
  pub read_end : end_stands (length rows) ws ≡ true → read_rows (suc more) free pace rows place ws ≡ refused_or
      (end_tests (length rows) place ws) (accepted (day_of free rows))
  unfolding read_rows
  read_end e = rw (e, read_rows)

  pub read_on_lem : end_stands (length rows) ws ≡ false →
      read_rows (suc more) free pace rows place ws ≡
      refused_or (row_tests (numbers_of rows) place ws) (read_rows more free pace (rows ++ (row_of pace ws ∷ [])) (place + 4) (drop 4 ws))
  unfolding read_rows
  read_on_lem e = rw (e, read_rows)

-- Some rows of the words are read: the table holds them, the column their numbers, and the rest gives what the whole gives.
pub record Reached (free pace : ℕ) (words : List ℕ) (t : Table) (numbers : List ℕ) (place : ℕ) (rest : List ℕ) : Type 0 where
  pub filled : Filled free t
  pub column : Column numbers t
  pub at : place ≡ 4 * t.count + 2
  pub same : read_rows tried_rows free pace [] 2 words ≡ read_rows (tried_rows - t.count) free pace (table_rows t) place rest

pub reached_start : (free pace : ℕ) (words : List ℕ) → Reached free pace words (table_of (day_of free [])) (replicate most_rows 0) 2 words
unfolding table_of
reached_start free pace words = record { filled = filled_start free; column = column_start free; at = refl; same = refl }

module _ {free pace : ℕ} {words : List ℕ} {t : Table} {numbers : List ℕ} {place : ℕ} {rest : List ℕ}
    (h : Reached free pace words t numbers place rest) where
  size : length (table_rows t) ≡ t.count
  size = filled_size h.filled

  more : tried_rows - t.count ≡ suc (most_rows - t.count)
  more = omega (arith, h.filled.few)

  -- The tests of the row that is next, by the column.
  abbrev tests : Tested
  tests = row_tests (take t.count numbers) place rest

  -- The end word: what the rows give is what its tests leave of the table.
  ended : end_stands t.count rest ≡ true → read_rows tried_rows free pace [] 2 words ≡ refused_or (end_tests t.count place rest)
      (accepted (day_of free (table_rows t)))
  ended e =
      let r = read_end (most_rows - t.count) free pace (table_rows t) place rest (rw size e) in
      rw (h.same, more, r, size) refl

  pub reached_end : end_stands t.count rest ≡ true → end_tests t.count place rest ≡ Ok tt →
      Ok t ≡ reading_of (read_rows tried_rows free pace [] 2 words)
  unfolding reading_of
  reached_end e g = rw (ended e, g) (ap Ok h.filled.laid)

  pub reached_end_refused : (refusal : Refusal) → end_stands t.count rest ≡ true → end_tests t.count place rest ≡ Err refusal →
      Err refusal ≡ reading_of (read_rows tried_rows free pace [] 2 words)
  unfolding reading_of
  reached_end_refused refusal e g = rw (ended e, g) refl

  tested : end_stands t.count rest ≡ false →
      read_rows tried_rows free pace [] 2 words ≡ refused_or tests
      (read_rows (most_rows - t.count) free pace (table_rows t ++ (row_of pace rest ∷ [])) (place + 4) (drop 4 rest))
  tested e = rw (h.same, more, h.column.same) (read_on_lem (most_rows - t.count) free pace (table_rows t) place rest (rw size e))

  pub reached_refused : (refusal : Refusal) → end_stands t.count rest ≡ false → tests ≡ Err refusal →
      Err refusal ≡ reading_of (read_rows tried_rows free pace [] 2 words)
  unfolding reading_of
  reached_refused refusal e g = rw (tested e, g) refl

  pub reached_room : tests ≡ Ok tt → t.count < most_rows
  reached_room g =
      let f = row_fits (take t.count numbers) place rest g in
      omega (arith, f.room, ap length h.column.same, length-map (table_rows t) (λ (r : Row). r.number), size)

  pub reached_on : end_stands t.count rest ≡ false → tests ≡ Ok tt →
      Reached free pace words (pushed t (row_of pace rest)) (set numbers t.count (row_of pace rest).number) (place + 4) (drop 4 rest)
  reached_on e g =
      let row = row_of pace rest in
      let room : t.count < most_rows = reached_room g in
      let left : tried_rows - (t.count + 1) ≡ most_rows - t.count = omega arith in
      record {
        filled = filled_on h.filled row room;
        column = column_on row h.filled room h.column;
        at = omega (arith, h.at);
        same =
            tested e
            ∙ ap (λ (z : Tested). refused_or z
            (read_rows (most_rows - t.count) free pace (table_rows t ++ (row ∷ [])) (place + 4) (drop 4 rest))) g
            ∙ rw (pushed_rows_lem h.filled row room, left);
      }
