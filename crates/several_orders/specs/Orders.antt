-- The orders of several desks as the code writes them, from what it holds of each. Only contracts cite it.
-- Rests on: what is held of a desk (several_books), what is chosen (overtime).
use Rattle.std.specs.Prelude.{ℕ, zero, suc, ◌+◌, ◌<◌, List, map}
use Rattle.schedule.specs.Rows.{count_from}
use Rattle.schedule.specs.Offset.{lowered}
use Rattle.schedule.specs.Columns.{at}
use Rattle.overtime.specs.Choices.{or_empty}
use Rattle.choice.specs.Lists.{lates_at, place_at}
use Rattle.several_books.specs.Held.{slot_at, planning_at, SlotReady}

-- The rows of the first d desks.
unfoldable pub rows_to : (rows : List ℕ) → ℕ → ℕ
rows_to rows zero = 0
rows_to rows (suc d) = rows_to rows d + at rows d

module _ (free rows plans : List ℕ) (columns fronts : List (List ℕ)) (bound : ℕ) where
  -- The order of the first listed plan of desk e within the bound; and those of the first d desks.
  abbrev pub order_at : ℕ → List ℕ
  order_at e =
      or_empty ((planning_at (slot_at free rows plans columns fronts e)).orders (lowered (at (lates_at fronts e) (place_at plans fronts bound
      e))))

  abbrev pub orders_to : ℕ → List (List ℕ)
  orders_to d = map order_at (count_from 0 d)

  -- The first d desks can be planned, and each has a plan within the bound.
  abbrev pub CanOrder : ℕ → Type 0
  CanOrder d = (e : ℕ) → e < d → SlotReady (slot_at free rows plans columns fronts e) × (place_at plans fronts bound e < at plans e)
