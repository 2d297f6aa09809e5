-- The due of a row: told by a due word, or worked out from the turnaround class that stands in its place.
-- Rests on: the words, Margins. As there, `ws` is the book from `place` on, here from the number word of a row: its word 3 is the one.
use Rattle.std.specs.Prelude.{ℕ, ◌+◌, cond, List, eqb, Option, None, Some}
use Rattle.schedule.specs.Limits.{latest_due}
use Rattle.refusals.specs.Tests.{Tested}
use Rattle.words.specs.Words.{kind, value, word}
use Rattle.row_reader.specs.Margins.{margin}
use Rattle.words.specs.WordTests.{word_tests, open_words}

-- The class of a row: the value of a word of kind 0 in the place of the due word. A word of another kind is no class.
unfoldable pub class_of : List ℕ → Option ℕ
class_of ws = cond (eqb (kind (word ws 3)) 0) (Some (value (word ws 3))) None

-- The tests of that word: of a class word, kind 0, 0 to 7; of a due word, kind 6, 0 to 20,000,000. So another kind is refused 2. (Past the
-- end of the book there is no word of either kind: cut.)
unfoldable pub tests_by : Option ℕ → ℕ → List ℕ → Tested
tests_by None place ws = word_tests 6 0 latest_due place ws 3
tests_by (Some c) place ws = word_tests 0 0 7 place ws 3

abbrev pub due_tests : ℕ → List ℕ → Tested
due_tests place ws = tests_by (class_of ws) place ws

-- Due: the value of the due word; of a class, release plus length plus margin.
unfoldable pub due_by : Option ℕ → (release minutes told : ℕ) → ℕ
due_by None release minutes told = told
due_by (Some c) release minutes told = release + minutes + margin c

abbrev pub due_of : (release minutes : ℕ) → List ℕ → ℕ
due_of release minutes ws = due_by (class_of ws) release minutes (value (word ws 3))

-- Opens every definition of this file and of those that it rests on.
unfoldable pub open_due : Unit {0}
unfolding open_words class_of tests_by due_by
open_due = tt
