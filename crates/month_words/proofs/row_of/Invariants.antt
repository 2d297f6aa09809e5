-- `row_of` meets its contract: no row passed has the number.
-- Assumes nothing.
use Rattle.month_words.proofs.Rows.{NoneOf}
use Rattle.month_words.proofs.row_of.Given as goal

abbrev pub invariant-loop-i : goal.invariant-loop-i
invariant-loop-i l = NoneOf l.book l.i l.number
