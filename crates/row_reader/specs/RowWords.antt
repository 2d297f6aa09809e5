-- The words of a row: the tests 4 and 5, and the row that the words make.
-- Rests on: the words, NearestMinute, Due. As there, `ws` is the book from `place` on.
use Rattle.std.specs.Prelude.{ℕ, List, map, leb, length}
use Rattle.schedule.specs.Limits.{latest_minute, most_rows, most_pages}
use Rattle.schedule.specs.declared.Row.{Row}
use Rattle.schedule.specs.Rows.{stands}
use Rattle.refusals.specs.Tests.{Tested}
use Rattle.refusals.specs.Refusals.{by_twice, by_full}
use Rattle.refusals.specs.Tests.{refuse_if, ◌then◌}
use Rattle.words.specs.Words.{value, word}
use Rattle.words.specs.WordTests.{kind_tests, word_tests}
use Rattle.row_reader.specs.NearestMinute.{length_of}
use Rattle.row_reader.specs.Due.{due_tests, class_of, due_of, open_due}

-- The order numbers of the rows read so far.
abbrev pub numbers_of : List Row → List ℕ
numbers_of rows = map (λ (r : Row). r.number) rows

-- The number word of a row, kind 3: cut, kind, full and twice, after the numbers read so far.
unfoldable pub number_tests : List ℕ → ℕ → List ℕ → Tested
number_tests numbers place ws =
    kind_tests 3 place ws 0 then
    refuse_if (leb most_rows (length numbers)) by_full place then
    refuse_if (stands (value (word ws 0)) numbers) by_twice place

-- The four words of a row: number; release, kind 4, 0 to 10,000,000; pages, kind 5, 1 to 2,000; due or class.
unfoldable pub row_tests : List ℕ → ℕ → List ℕ → Tested
row_tests numbers place ws =
    number_tests numbers place ws then
    word_tests 4 0 latest_minute place ws 1 then
    word_tests 5 1 most_pages place ws 2 then
    due_tests place ws

-- A row of the table: number, release, length, due, the class or that it has none, and the pages.
abbrev pub row_of : (pace : ℕ) → List ℕ → Row
row_of pace ws =
    let pages = value (word ws 2) in
    let minutes = length_of pages pace in
    record {
      number = value (word ws 0);
      release = value (word ws 1);
      length = minutes;
      due = due_of (value (word ws 1)) minutes ws;
      class = class_of ws;
      pages = pages;
    }

-- Opens every definition of this file and of those that it rests on.
unfoldable pub open_row_words : Unit {0}
unfolding open_due stands number_tests row_tests
open_row_words = tt
