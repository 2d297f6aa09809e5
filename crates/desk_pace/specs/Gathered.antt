-- What the functions of a change of pace fill columns with. Only contracts cite it.
-- Rests on: the words of a desk, the length of a row.
use Rattle.std.specs.Prelude.{ℕ, ◌+◌, List}
use Rattle.schedule.specs.Columns.{at}
use Rattle.row_reader.specs.NearestMinute.{length_of}
use Rattle.running.specs.Words.{pages}

-- The lengths by a pace of rows whose numbers stand from place 1 on.
abbrev pub length_left : (ws : List ℕ) (pace : ℕ) (rows : List ℕ) → ℕ → ℕ
length_left ws pace rows k = length_of (at ws (pages + at rows (k + 1))) pace
