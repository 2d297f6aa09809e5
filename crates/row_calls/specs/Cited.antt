-- What only contracts cite: how a row is looked for.
-- Rests on: Places.
use Rattle.std.specs.Prelude.{ℕ, ◌+◌, ◌≤◌, ◌≡◌, List, length, Ok}
use Rattle.schedule.specs.Rows.{Day}
use Rattle.book.specs.Rows.{accepted}
use Rattle.row_calls.specs.Places.{RowPlace, place_in}

-- The four words at a place that was found stand in the book.
abbrev pub WordsInside : RowPlace → List ℕ → Type 0
WordsInside f book = (place : ℕ) → f ≡ Ok place → place + 4 ≤ length book

-- What is answered from the count of rows: the place of row k of any day that has as many.
abbrev pub PlaceAmong : (count k : ℕ) → RowPlace → Type 0
PlaceAmong count k f = (day : Day) → count ≡ length day.rows → f ≡ place_in (accepted day) k
