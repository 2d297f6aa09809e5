-- Rows found by their order numbers, as far as a loop has come.
-- Assumes nothing.
use Prim.Native.Nat.{ℕ, ◌≤◌, ◌<◌}
use mathlib.Core.Path.{◌≡◌}
use mathlib.Core.List.{List}
use lib.ListN.{get_or}
use Rattle.month_words.specs.Postings.{Has, RowOf}

-- None of the first i rows has the number.
abbrev pub NoneOf : (book : List ℕ) (i number : ℕ) → Type 0
NoneOf book i number = (k : ℕ) → k < i → Has book k number → ⊥

-- The first k order numbers are rows, and the others stay.
pub record Turning (k rows : ℕ) (book before after : List ℕ) : Type 0 where
  pub row : (j : ℕ) → j < k → RowOf (get_or after j 0) rows (get_or before j 0) book
  pub some : (j : ℕ) → j < k → 0 < get_or after j 0
  pub left : (j : ℕ) → k ≤ j → get_or after j 0 ≡ get_or before j 0
