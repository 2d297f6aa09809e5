-- `write_order` meets its contract: the entries passed are the rows of the order's ranks, and the others are as they were.
-- Assumes nothing.
use mathlib.Core.Path.{◌≡◌}
use mathlib.Core.List.{◌++◌, map}
use lib.ListN.{length, take, drop}
use Rattle.schedule.specs.Columns.{at}
use Rattle.plans.proofs.write_order.Given as goal

abbrev pub invariant-loop-i : goal.invariant-loop-i
invariant-loop-i l = (length l.out ≡ length l.initial.out) × (l.out ≡ map (at l.rows) (take l.i l.order) ++ drop l.i l.initial.out)
