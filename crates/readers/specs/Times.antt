-- The times that rows take at the desk, from their lengths. Only contracts cite it.
-- Rests on: the schedule's columns.
use Rattle.std.specs.Prelude.{ℕ, ◌+◌, ◌≤◌, ◌<◌, ◌≡◌, List, length}
use Rattle.schedule.specs.Columns.{at}

-- Rows 1 to n of a column have the opening added; the other places are as they were.
pub record Timed (opening n : ℕ) (lengths times : List ℕ) : Type 0 where
  pub sized : length times ≡ length lengths
  pub added : (i : ℕ) → 1 ≤ i → i ≤ n → at times i ≡ opening + at lengths i
  pub no_row : at times 0 ≡ at lengths 0
  pub past : (i : ℕ) → n < i → at times i ≡ at lengths i
