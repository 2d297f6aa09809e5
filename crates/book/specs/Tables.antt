-- The table that the reader makes of a book. Only contracts cite it.
-- Rests on: Rows.
use Rattle.refusals.specs.Tests.{refusal_at}
use Rattle.std.specs.Prelude.{◌-◌, List, ◌++◌, length, take, replicate, Result, Ok, Err}
use Rattle.schedule.specs.Limits.{most_rows}
use Rattle.schedule.specs.declared.Row.{Row}
use Rattle.schedule.specs.Rows.{no_row, Day}
use Rattle.refusals.specs.declared.Refusal.{Refusal}
use Rattle.book.specs.declared.Table.{Table}
use Rattle.book.specs.Rows.{Contents, refused, accepted}

-- The table of a day: the free minute, the count of rows, the rows, and no row in the places after them. And the rows that a table holds.
unfoldable pub table_of : Day → Table
table_of day = record { free = day.free; count = length day.rows; rows = day.rows ++ replicate (most_rows - length day.rows) no_row }

abbrev pub table_rows : Table → List Row
table_rows t = take t.count t.rows

-- What the reader answers: the table, or the refusal.
unfoldable pub reading_of : Contents → Result Table Refusal
reading_of (refused n p) = Err (refusal_at n p)
reading_of (accepted day) = Ok (table_of day)
