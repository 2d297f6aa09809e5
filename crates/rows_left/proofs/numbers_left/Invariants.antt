-- `numbers_left` meets its contract: the rows left before row i are noted.
-- Assumes nothing.
use Prim.Native.Nat.{◌+◌, ◌≤◌}
use Rattle.running.specs.Words.{count_in}
use Rattle.rows_left.proofs.LeftRows.{NotedBefore}
use Rattle.rows_left.proofs.numbers_left.Given as goal

abbrev pub invariant-loop-i : goal.invariant-loop-i
invariant-loop-i l = (l.i ≤ count_in l.desk + 1) × NotedBefore l.desk l.i l.m l.rows
