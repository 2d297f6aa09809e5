-- The numbers of the rows passed stand at their places.
use Rattle.std.proofs.Common.{take}
use Rattle.book.specs.Tables.{table_rows}
use Rattle.sheet.proofs.Naming.{Numbers}
use Rattle.sheet.proofs.numbers_of.Given as goal

abbrev pub invariant-loop-i : goal.invariant-loop-i
invariant-loop-i l = Numbers l.numbers (take l.i (table_rows l.fn.table))
