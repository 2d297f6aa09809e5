-- `list_along` meets its contract: what is listed so far, and what smaller bounds still give, is the list of plans. The bound falls.
-- Assumes nothing.
use Prim.Native.Nat.{◌≤◌}
use mathlib.Core.Path.{◌≡◌}
use lib.ListN as L
use Rattle.schedule.specs.Limits.{most_rows}
use Rattle.schedule.specs.Columns.{at, columns}
use Rattle.trail.specs.Trails.{Ended}
use Rattle.listing.proofs.Lists.{Listing}
use Rattle.listing.proofs.list_along.Given as goal

abbrev pub invariant-loop-desk : goal.invariant-loop-desk
invariant-loop-desk l =
    (L.length l.order ≡ most_rows) × (l.n ≤ L.length l.trail) × Ended l.n (columns l.release l.minutes l.due) (at l.by) l.free l.bound l.trail l.reached ×
    Listing (columns l.release l.minutes l.due) l.n l.free (record { count = l.count; ends = l.ends; lates = l.lates }) l.bound ×
    (L.length l.trail ≡ L.length l.initial.trail)

abbrev pub decreases-loop-desk : goal.decreases-loop-desk
decreases-loop-desk l = l.bound
