-- The rows so far stand in the columns. Each turn takes one more.
use Rattle.std.proofs.Common.{take}
use Rattle.rows.proofs.Laid.{Laid}
use Rattle.rows.proofs.columns_of.Given as goal

abbrev pub invariant-loop-i : goal.invariant-loop-i
invariant-loop-i l = Laid (take l.i l.rows) l.columns
