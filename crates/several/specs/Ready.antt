-- The desks of several days once all their books are read. Only a contract cites it.
-- Rests on: what is held of a desk (several_books).
use Rattle.std.specs.Prelude.{ℕ, ◌≡◌, List, length}
use Rattle.schedule.specs.Rows.{Day}
use Rattle.several_books.specs.Days.{rows_of}
use Rattle.several_books.specs.Held.{DaysHeld}

-- The desks of these days, as many as there are closing minutes, with so many rows in all.
pub record DaysReady (opening : ℕ) (ds : List Day) (free rows plans : List ℕ) (columns fronts : List (List ℕ)) (desks total : ℕ) : Type
    0 where
  pub many : length ds ≡ desks
  pub summed : total ≡ rows_of ds
  pub held : DaysHeld opening ds free rows plans columns fronts
