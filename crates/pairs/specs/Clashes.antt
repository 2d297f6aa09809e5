-- How a test of row pairs comes out, by the numbers of the rows. The proof is `pairs_settled`, in proofs/Clashes.antt.
-- Rests on: Pairs, the schedule's rows.
use Rattle.std.specs.Prelude.{ℕ, ◌≤◌, ◌<◌, Bool, true, false, ◌≡◌, length, Ok, Err}
use mathlib.Core.List.{List, Memᴰ}
use Rattle.schedule.specs.declared.Row.{Row}
use Rattle.schedule.specs.Rows.{row, all_rows}
use Rattle.refusals.specs.Tests.{Tested, refusal_at}
use Rattle.pairs.specs.Pairs.{number_word, pair_tests}

-- A clash goes both ways, and no row clashes with itself.
pub record Mutual (clash : Row → Row → Bool) : Type 0 where
  pub swap : (r s : Row) → clash r s ≡ clash s r
  pub self : (r : Row) → clash r r ≡ false

-- No two rows clash.
abbrev pub NoneClash : (clash : Row → Row → Bool) → List Row → Type 0
NoneClash clash rows = (i j : ℕ) → Memᴰ i (all_rows rows) → Memᴰ j (all_rows rows) → clash (row rows i) (row rows j) ≡ false

-- Row k is the earliest that clashes with any row above it: it does with row j.
pub record Earliest (clash : Row → Row → Bool) (rows : List Row) (j k : ℕ) : Type 0 where
  pub above : (1 ≤ j) × (j < k) × (k ≤ length rows)
  pub clashes : clash (row rows k) (row rows j) ≡ true
  pub none_before : (g h : ℕ) → 1 ≤ g → g < h → h < k → clash (row rows h) (row rows g) ≡ false

-- Either no two rows clash, and the test is passed; or there is such a row k, and the refusal has the test's number at k's number word.
pub data PairsSettled (clash : Row → Row → Bool) (number : ℕ) (rows : List Row) : Tested → Type 0 where
  unclashing : NoneClash clash rows → PairsSettled clash number rows (Ok tt)
  clashing : (j k : ℕ) → Earliest clash rows j k → PairsSettled clash number rows (Err (refusal_at number (number_word k)))

-- So the test of any clash of two rows comes out.
abbrev pub PairsSettle : Type 0
PairsSettle = (clash : Row → Row → Bool) → Mutual clash → (number : ℕ) (rows : List Row) →
    PairsSettled clash number rows (pair_tests clash number rows)
