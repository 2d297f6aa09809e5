-- The columns that a test of row pairs works on: the due of each row, and a second number that the rows are compared by. Both stand at the
-- row's number. Two rows clash if one has the smaller due and also the smaller second number.
-- Rests on: Pairs, the schedule's rows.
use Rattle.std.specs.Prelude.{ℕ, zero, suc, ◌≤◌, Bool, false, ◌&&◌, ◌||◌, ◌≡◌, List, ltb, length, get_or}
use Rattle.schedule.specs.declared.Row.{Row}
use Rattle.schedule.specs.Rows.{row}
use Rattle.refusals.specs.Tests.{Tested}
use Rattle.pairs.specs.Pairs.{pair_tests}

-- Two rows clash, by their numbers: one has the smaller due and also the smaller second number.
abbrev pub pair_clashes : (due second d s : ℕ) → Bool
pair_clashes due second d s = (ltb due d && ltb second s) || (ltb d due && ltb s second)

-- Rows i and j clash, by the columns.
abbrev pub places_clash : (dues seconds : List ℕ) (i j : ℕ) → Bool
places_clash dues seconds i j = pair_clashes (get_or dues i 0) (get_or seconds i 0) (get_or dues j 0) (get_or seconds j 0)

-- Row i clashes with one of the rows 1 to n.
unfoldable pub any_clashes : (dues seconds : List ℕ) (i : ℕ) → ℕ → Bool
any_clashes dues seconds i zero = false
any_clashes dues seconds i (suc n) = any_clashes dues seconds i n || places_clash dues seconds i (suc n)

-- One of the rows 1 to n clashes with a row above it.
unfoldable pub some_clash : (dues seconds : List ℕ) → ℕ → Bool
some_clash dues seconds zero = false
some_clash dues seconds (suc n) = some_clash dues seconds n || any_clashes dues seconds (suc n) n

-- The columns tell which rows clash: two rows do as the numbers in their places do.
abbrev pub Columned : (clash : Row → Row → Bool) → List Row → (dues seconds : List ℕ) → Type 0
Columned clash rows dues seconds = (i j : ℕ) → 1 ≤ i → i ≤ length rows → 1 ≤ j → j ≤ length rows →
    clash (row rows i) (row rows j) ≡ places_clash dues seconds i j

-- What a test of the first places of two columns answers: the test of any rows whose clashes they tell.
abbrev pub ColumnsTested : (dues seconds : List ℕ) (count number : ℕ) → Tested → Type 0
ColumnsTested dues seconds count number o = (clash : Row → Row → Bool) (rows : List Row) →
    length rows ≡ count → Columned clash rows dues seconds → o ≡ pair_tests clash number rows
