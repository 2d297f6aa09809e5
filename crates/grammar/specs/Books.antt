-- Books as they are written: from a free minute, a pace and rows as they came in. The proofs that the reader gives back what was written,
-- and takes nothing else, are `written_is_read` and `read_is_written`, in proofs/Books.antt.
-- Rests on: the limits, the row reader's lengths and margins.
use Rattle.std.specs.Prelude.{ℕ, ◌+◌, ◌*◌, ◌≤◌, ◌<◌, ◌≡◌, length, Option, None, Some}
use mathlib.Core.List.{List, [], ◌∷◌, ◌++◌, map, Memᴰ}
use Rattle.schedule.specs.Limits.{most_rows, latest_minute, latest_due, most_pages, least_pace, most_pace}
use Rattle.schedule.specs.declared.Row.{Row}
use Rattle.schedule.specs.Rows.{Day}
use Rattle.row_reader.specs.Margins.{margin}
use Rattle.row_reader.specs.NearestMinute.{length_of}
use Rattle.book.specs.Rows.{accepted, day_of}
use Rattle.book.specs.Book.{read_words}

-- When a transcript is due: at a minute, or by the turnaround class that it was sold in.
pub data Sold : Type 0 where
  due : ℕ → Sold
  class : ℕ → Sold

-- A row as it came in.
pub record Entry : Type 0 where
  pub number : ℕ
  pub release : ℕ
  pub pages : ℕ
  pub sold : Sold

-- A word: the kind in the top three bits, the value in the low 29.
abbrev pub word_of : (kind value : ℕ) → ℕ
word_of k v = k * 536870912 + v

abbrev pub sold_word : Sold → ℕ
sold_word (due d) = word_of 6 d
sold_word (class c) = word_of 0 c

-- The four words of a row; the words of rows; and the whole book.
abbrev pub entry_words : List Entry → List ℕ
entry_words [] = []
entry_words (e ∷ es) = word_of 3 e.number ∷ word_of 4 e.release ∷ word_of 5 e.pages ∷ sold_word e.sold ∷ entry_words es

abbrev pub book_of : (free pace : ℕ) → List Entry → List ℕ
book_of free pace es = word_of 1 free ∷ word_of 2 pace ∷ (entry_words es ++ (word_of 7 (length es) ∷ []))

-- What the row comes to in the table: length by the pace; due as told, or release plus length plus the class's margin.
abbrev pub due_by_sold : (release minutes : ℕ) → Sold → ℕ
due_by_sold release minutes (due d) = d
due_by_sold release minutes (class c) = release + minutes + margin c

abbrev pub class_by_sold : Sold → Option ℕ
class_by_sold (due d) = None
class_by_sold (class c) = Some c

abbrev pub row_by : (pace : ℕ) → Entry → Row
row_by pace e =
    let minutes = length_of e.pages pace in
    record {
      number = e.number;
      release = e.release;
      length = minutes;
      due = due_by_sold e.release minutes e.sold;
      class = class_by_sold e.sold;
      pages = e.pages;
    }

abbrev pub day_by : (free pace : ℕ) → List Entry → Day
day_by free pace es = day_of free (map (row_by pace) es)

-- A row with its numbers in range.
abbrev pub SoldInRange : Sold → Type 0
SoldInRange (due d) = d ≤ latest_due
SoldInRange (class c) = c ≤ 7

pub record EntryInRange (e : Entry) : Type 0 where
  pub number : e.number < 536870912
  pub release : e.release ≤ latest_minute
  pub pages : (1 ≤ e.pages) × (e.pages ≤ most_pages)
  pub sold : SoldInRange e.sold

-- The numbers differ from row to row.
abbrev pub NumbersDiffer : List Entry → Type 0
NumbersDiffer [] = Unit {0}
NumbersDiffer (e ∷ es) = ((f : Entry) → Memᴰ f es → ¬ (e.number ≡ f.number)) × NumbersDiffer es

-- What a bureau may write: 1 to 256 rows in range with different numbers, at a free minute and a pace in range.
pub record MayBeWritten (free pace : ℕ) (es : List Entry) : Type 0 where
  pub free_range : free ≤ latest_minute
  pub pace_range : (least_pace ≤ pace) × (pace ≤ most_pace)
  pub some_row : 1 ≤ length es
  pub few_rows : length es ≤ most_rows
  pub ranged : (e : Entry) → Memᴰ e es → EntryInRange e
  pub differ : NumbersDiffer es

-- The book tells this day: it is the book written from rows that come to it.
pub record Tells (book : List ℕ) (day : Day) : Type 0 where
  pub free : ℕ
  pub pace : ℕ
  pub entries : List Entry
  pub may : MayBeWritten free pace entries
  pub is_book : book ≡ book_of free pace entries
  pub is_day : day ≡ day_by free pace entries

-- The round trip: the book written from up to 256 such rows passes tests 1 to 7 and gives those rows ..
abbrev pub WrittenIsRead : Type 0
WrittenIsRead = (free pace : ℕ) (es : List Entry) → MayBeWritten free pace es →
    read_words (book_of free pace es) ≡ accepted (day_by free pace es)

-- .. and a book that passes them is one so written.
abbrev pub ReadIsWritten : Type 0
ReadIsWritten = (book : List ℕ) (day : Day) → read_words book ≡ accepted day → Tells book day
