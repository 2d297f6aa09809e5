-- `lengths_left` meets its contract: the places before k are filled.
-- Assumes nothing.
use Prim.Native.Nat.{◌≤◌, ◌+◌, ◌-◌}
use Rattle.schedule.specs.Limits.{row_places}
use Rattle.schedule.specs.Filled.{Filled, from}
use Rattle.desk_pace.specs.Gathered.{length_left}
use Rattle.desk_pace.proofs.lengths_left.Given as goal

abbrev pub invariant-loop-k : goal.invariant-loop-k
invariant-loop-k l = (l.k ≤ l.n + 1) × Filled row_places (from 1) (length_left l.desk l.pace l.rows) (l.k - 1) l.column
