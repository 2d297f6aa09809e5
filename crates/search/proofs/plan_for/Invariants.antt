-- `plan_for` meets its contract: from each desk the blocks still to come lead to the order for the bound. Each block takes a row.
-- Assumes nothing.
use Prim.Native.Nat.{◌-◌}
use Rattle.schedule.specs.Columns.{at, columns}
use Rattle.search.proofs.Planning.{Planning}
use Rattle.search.proofs.plan_for.Given as goal

abbrev pub invariant-loop-s : goal.invariant-loop-s
invariant-loop-s l = Planning l.n (columns l.release l.minutes l.due) (at l.by) l.free l.bound l.order l.s

abbrev pub decreases-loop-s : goal.decreases-loop-s
decreases-loop-s l = l.n - l.s.count
