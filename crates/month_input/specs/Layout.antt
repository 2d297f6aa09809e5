-- The input of `month`: days one after another, each a book and a posting with their lengths before them.
-- Rests on: the words of an input.
use Rattle.std.specs.Prelude.{ℕ, zero, suc, ◌+◌, ◌%◌, cond, ◌&&◌, List, [], ◌∷◌, leb, eqb, length, take, drop}
use Rattle.std.proofs.Math.Option.{Option, none, some}
use Rattle.input.specs.Input.{words_in}

-- A day of a month: a book, and the order that was posted for it.
pub record PostedDay : Type 0 where
  pub book : List ℕ
  pub posting : List ℕ

-- The most days of a month; the most words of a book and entries of a posting that a day may have; the words of the longest day.
abbrev pub most_days : ℕ
most_days = 31

abbrev pub most_book : ℕ
most_book = 1028

abbrev pub most_posting : ℕ
most_posting = 257

abbrev pub most_words : ℕ
most_words = 1287

-- The words that a day takes.
abbrev pub size_of : PostedDay → ℕ
size_of d = length d.book + length d.posting + 2

-- The day at the start of some words: the book's length, the book, the posting's length, the posting. It is broken if a length is above the
-- most, or if the words end inside it.
pub data Cut : Type 0 where
  whole : PostedDay → Cut
  broken : Cut

unfoldable pub cut_posting : (book : List ℕ) → List ℕ → Cut
cut_posting book [] = broken
cut_posting book (m ∷ ws) = cond (leb m most_posting && leb m (length ws)) (whole (record { book = book; posting = take m ws })) broken

unfoldable pub cut_day : List ℕ → Cut
cut_day [] = broken
cut_day (n ∷ ws) = cond (leb n most_book && leb n (length ws)) (cut_posting (take n ws) (drop n ws)) broken

-- A day before others.
abbrev pub day_before : PostedDay → Option (List PostedDay) → Option (List PostedDay)
day_before d none = none
day_before d (some ds) = some (d ∷ ds)

-- The days of some words, at most so many: the words end after a whole day.
unfoldable pub days_in : ℕ → List ℕ → Option (List PostedDay)
days_in zero [] = some []
days_in zero (w ∷ ws) = none
days_in (suc n) [] = some []
days_in (suc n) (w ∷ ws) = elim (cut_day (w ∷ ws)) [
  | broken ↦ none
  | whole d ↦ day_before d (days_in n (drop (size_of d) (w ∷ ws)))
]

-- The days of an input: it has whole words, and these are whole days, 31 at most.
unfoldable pub input_days : (most : ℕ) → List ℕ → Option (List PostedDay)
input_days most input = cond (eqb (length input % 4) 0) (days_in most (words_in (length input) input)) none

abbrev pub month_in : List ℕ → Option (List PostedDay)
month_in input = input_days most_days input

-- Opens every definition of this file: name it on an `unfolding` line where all is to be computed.
unfoldable pub open_layout : Unit {0}
unfolding words_in cut_posting cut_day days_in input_days
open_layout = tt
