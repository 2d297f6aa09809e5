-- What only contracts cite: how a row is read.
-- Rests on: the rows of a table.
use Rattle.std.specs.Prelude.{ℕ, ◌<◌, Option, None, Some, Result, Ok, Err}
use Rattle.schedule.specs.declared.Row.{Row}
use Rattle.refusals.specs.declared.Refusal.{Refusal}
use Rattle.refusals.specs.Tests.{Tested}

-- A class that has a margin.
abbrev pub Margined : Option ℕ → Type 0
Margined None = Unit {0}
Margined (Some c) = c < 8

-- What the row reader answers: the row whose tests are passed, or the refusal.
unfoldable pub row_read_of : Tested → Row → Result Row Refusal
row_read_of (Ok _) r = Ok r
row_read_of (Err refusal) r = Err refusal
