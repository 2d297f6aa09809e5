-- Order numbers: those of a table's rows, at their places, and those of an order, put in the place of its rows.
-- Assumes nothing.
use Prim.Native.Nat.{ℕ, ◌≤◌, ◌<◌}
use mathlib.Core.Path.{◌≡◌, refl}
use mathlib.Core.List.{List, []}
use lib.ListN.{length, get_or, replicate}
use Rattle.schedule.specs.Limits.{row_places}
use Rattle.schedule.specs.declared.Row.{Row}
use Rattle.rows.specs.InColumns.{Column}
use Rattle.rows.proofs.Column.{column_none}

-- The numbers of the first n rows, at their places.
abbrev number : Row → ℕ
number r = r.number

abbrev pub Numbers : List ℕ → List Row → Type 0
Numbers = Column number

pub no_numbers : Numbers (replicate row_places 0) []
no_numbers = column_none number refl

-- An order whose first k rows have their numbers in their places.
pub record Named (f : ℕ → ℕ) (k : ℕ) (order before : List ℕ) : Type 0 where
  pub size : length order ≡ length before
  pub done : (j : ℕ) → j < k → get_or order j 0 ≡ f (get_or before j 0)
  pub left : (j : ℕ) → k ≤ j → get_or order j 0 ≡ get_or before j 0
