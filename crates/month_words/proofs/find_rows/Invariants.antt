-- `find_rows` meets its contract: the numbers passed are rows, and the others are as they were.
-- Assumes nothing.
use Rattle.month_words.proofs.Rows.{Turning}
use Rattle.month_words.proofs.find_rows.Given as goal

abbrev pub invariant-loop-k : goal.invariant-loop-k
invariant-loop-k l = Turning l.k l.rows l.book l.initial.posting l.posting
