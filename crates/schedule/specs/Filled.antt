-- A table of numbers filled place by place, as a loop fills it. Only contracts cite it.
-- Rests on: Columns.
use Rattle.std.specs.Prelude.{ℕ, ◌+◌, ◌≤◌, ◌<◌, List, ◌≡◌, length}
use Rattle.schedule.specs.Columns.{at}

-- The first k of the places are filled, and the rest of the table holds 0: what bounds the filled places bounds all.
pub record Filled (size : ℕ) (place what : ℕ → ℕ) (k : ℕ) (table : List ℕ) : Type 0 where
  pub sized : length table ≡ size
  pub filled : (m : ℕ) → m < k → at table (place m) ≡ what m
  pub within : (bound : ℕ) → ((m : ℕ) → m < k → what m ≤ bound) → (p : ℕ) → at table p ≤ bound

-- Places counted from the first one on.
abbrev pub from : ℕ → ℕ → ℕ
from first m = m + first
