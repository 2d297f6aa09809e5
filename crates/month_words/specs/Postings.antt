-- The rows of a book that have an order number, and a posting of rows made of a posting of order numbers.
-- Rests on: nothing.
use Rattle.std.specs.Prelude.{ℕ, ◌+◌, ◌*◌, ◌%◌, ◌≤◌, ◌<◌, ◌≡◌, List, length, get_or}

-- The row after i rows has this order number: its first word, of kind 3, says so.
abbrev pub Has : (book : List ℕ) (i number : ℕ) → Type 0
Has book i number = get_or book (4 * i + 2) 0 ≡ 3 * 536870912 + number % 536870912

-- r is the first of so many rows that has this order number, counted from 1, or 0 if none has it.
pub record RowOf (r rows number : ℕ) (book : List ℕ) : Type 0 where
  pub within : r ≤ rows
  pub here : (i : ℕ) → r ≡ i + 1 → Has book i number
  pub before : (i : ℕ) → i + 1 < r → Has book i number → ⊥
  pub none : r ≡ 0 → (i : ℕ) → i < rows → Has book i number → ⊥

-- Of a posting of so many order numbers the first r are turned into rows, and the next has no row.
pub record Turned (r rows count : ℕ) (book before after : List ℕ) : Type 0 where
  pub few : r ≤ count
  pub size : length after ≡ length before
  pub row : (k : ℕ) → k < r → RowOf (get_or after k 0) rows (get_or before k 0) book
  pub some : (k : ℕ) → k < r → 0 < get_or after k 0
  pub left : (k : ℕ) → r ≤ k → get_or after k 0 ≡ get_or before k 0
  pub none : r < count → RowOf 0 rows (get_or before r 0) book
