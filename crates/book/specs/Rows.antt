-- The rows of a book: read one after another up to the end word, with the tests 6 and 7. What a book gives.
-- Rests on: the words, the row reader. As there, `ws` is the book from `place` on.
use Rattle.std.specs.Prelude.{ℕ, zero, suc, ◌+◌, Bool, true, false, not, ◌&&◌, List, [], ◌∷◌, ◌++◌, ltb, eqb, length, drop, Ok, Err}
use Rattle.schedule.specs.declared.Row.{Row}
use Rattle.schedule.specs.Rows.{Day}
use Rattle.refusals.specs.Tests.{Tested}
use Rattle.refusals.specs.Refusals.{by_full, by_count, by_tail}
use Rattle.refusals.specs.Tests.{refuse_if, ◌then◌}
use Rattle.words.specs.Words.{kind, value, word}
use Rattle.row_reader.specs.RowWords.{numbers_of, row_tests, row_of, open_row_words}

-- What a book gives: the refusal with its number and place, or the day at the desk: its free minute and the rows of the table.
pub data Contents : Type 0 where
  refused : ℕ → ℕ → Contents
  accepted : Day → Contents

-- The day with this free minute and these rows.
abbrev pub day_of : ℕ → List Row → Day
day_of free rows = record { free = free; rows = rows }

-- What a test leaves of the contents.
abbrev pub refused_or : Tested → Contents → Contents
refused_or (Ok _) c = c
refused_or (Err refusal) c = refused refusal.number refusal.place

-- The end word, kind 7, stands here. It may stand only after a whole row.
unfoldable pub end_stands : (count : ℕ) → List ℕ → Bool
end_stands count ws = ltb 0 count && (ltb 0 (length ws) && eqb (kind (word ws 0)) 7)

-- Count and tail, at the end word.
unfoldable pub end_tests : (count place : ℕ) → List ℕ → Tested
end_tests count place ws =
    refuse_if (not (eqb (value (word ws 0)) count)) by_count place then
    refuse_if (ltb 1 (length ws)) by_tail (place + 1)

-- So many rows are tried at most: `full` stops at row 257.
abbrev pub tried_rows : ℕ
tried_rows = 257

-- The rows from a place on, after the rows read so far: the end, or one row, and the rest is read on as a part of its own.
-- The first number bounds the rows that are still tried.
unfoldable pub read_rows : ℕ → (free pace : ℕ) → List Row → ℕ → List ℕ → Contents
read_rows zero free pace rows place ws = refused by_full place
read_rows (suc more) free pace rows place ws = elim (end_stands (length rows) ws) [
  | true ↦ refused_or (end_tests (length rows) place ws) (accepted (day_of free rows))
  | false ↦ refused_or (row_tests (numbers_of rows) place ws) (read_rows more free pace (rows ++ (row_of pace ws ∷ [])) (place + 4) (drop 4 ws))
]

-- Opens every definition of this file and of those that it rests on.
unfoldable pub open_rows : Unit {0}
unfolding open_row_words end_stands end_tests read_rows
open_rows = tt
