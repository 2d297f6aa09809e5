-- `rule_tests` meets its contract: the column holds the second numbers of the rows, and the pair test of the columns is that of the rows.
-- Assumes nothing.
use Prim.Native.Nat.{◌≤◌, ◌+◌, ◌-◌}
use Rattle.schedule.specs.Columns.{columns}
use Rattle.readers.proofs.Seconds.{Held}
use Rattle.readers.proofs.rule_tests.Given as goal

abbrev pub invariant-loop-i : goal.invariant-loop-i
invariant-loop-i l = (l.i ≤ l.count + 1) × Held l.profile (columns l.release l.minutes l.due) (l.i - 1) l.seconds
