-- `halve` meets its contract. The invariant: `low` is in time and has its desk and order, and the minute after `high` is not in time. The
-- measure is how often what lies between can be halved: 24 times at most.
-- Assumes nothing.
use Prim.Native.Nat.{◌-◌}
use mathlib.Core.Path.{◌≡◌}
use lib.ListN.{length}
use Rattle.schedule.specs.Limits.{most_rows}
use Rattle.schedule.specs.Columns.{columns}
use Rattle.latest_search.specs.Halvings.{halvings}
use Rattle.latest_search.proofs.Found.{Between}
use Rattle.latest_search.proofs.halve.Given as goal

abbrev pub invariant-loop-low : goal.invariant-loop-low
invariant-loop-low l =
    Between (columns l.release l.minutes l.due) l.n l.end l.bound l.low l.high l.desk l.best × (length l.order ≡ most_rows)

abbrev pub decreases-loop-low : goal.decreases-loop-low
decreases-loop-low l = halvings (l.high - l.low)
