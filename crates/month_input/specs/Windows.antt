-- The day that is cut off the front of a window, as the code tells it.
-- Rests on: Layout.
use Rattle.std.specs.Prelude.{ℕ, ◌+◌, ◌≤◌, Option, None, Some, List, take, drop}
use Rattle.month_input.specs.declared.Extent.{Extent}
use Rattle.month_input.specs.Layout.{PostedDay, Cut, whole, broken, most_book, most_posting}

-- The day of so many words of book and entries of posting at the start of some words.
abbrev pub day_at : List ℕ → ℕ → ℕ → PostedDay
day_at words b p = record { book = take b (drop 1 words); posting = take p (drop (b + 2) words) }

abbrev pub cut_of : List ℕ → Option Extent → Cut
cut_of words (Some e) = whole (day_at words e.book e.posting)
cut_of words None = broken

-- It is within its limits, and within the n words.
abbrev pub ExtentWithin : ℕ → Option Extent → Type 0
ExtentWithin n (Some e) = (e.book ≤ most_book) × (e.posting ≤ most_posting) × (e.book + e.posting + 2 ≤ n)
ExtentWithin n None = Unit {0}
