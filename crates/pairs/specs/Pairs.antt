-- A test of pairs of rows: no two rows clash. Test 8 is one, and so is test 13.
-- Rests on: the refusals, the schedule's rows.
use Rattle.std.specs.Prelude.{ℕ, ◌+◌, ◌-◌, ◌*◌, Bool, false, ◌||◌, List, [], ◌∷◌, ◌++◌, Ok}
use Rattle.schedule.specs.declared.Row.{Row}
use Rattle.refusals.specs.Tests.{Tested}
use Rattle.refusals.specs.Tests.{refuse_if, ◌then◌, open_refusals}

-- The place of the number word of row k, rows counted from 1. Row 1 begins at word 2, and a row has four words.
abbrev pub number_word : ℕ → ℕ
number_word k = 4 * (k - 1) + 2

-- Some entry of a list passes a test.
unfoldable pub some_entry : {A : Type 0} → (A → Bool) → List A → Bool
some_entry test [] = false
some_entry test (x ∷ xs) = test x || some_entry test xs

-- The test among `rows`, which stand below the rows `above`; the first has its number word at `place`. The earliest row that clashes with
-- any row above it counts, and the refusal has the test's number.
unfoldable pub pair_tests_from : (clash : Row → Row → Bool) (number place : ℕ) (above rows : List Row) → Tested
pair_tests_from clash number place above [] = Ok tt
pair_tests_from clash number place above (r ∷ rows) =
    refuse_if (some_entry (clash r) above) number place then
    pair_tests_from clash number (place + 4) (above ++ (r ∷ [])) rows

-- The whole test: the first row of a book has its number word at 2.
abbrev pub pair_tests : (clash : Row → Row → Bool) (number : ℕ) → List Row → Tested
pair_tests clash number rows = pair_tests_from clash number 2 [] rows

-- Opens every definition of this file and of those that it rests on.
unfoldable pub open_pairs : Unit {0}
unfolding open_refusals some_entry pair_tests_from
open_pairs = tt
