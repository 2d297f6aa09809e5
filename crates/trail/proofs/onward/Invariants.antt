-- `onward` meets its contract: from each desk the search has come to it goes on with a block, which the trail holds. Each block takes a
-- row. Assumes nothing.
use Prim.Native.Nat.{ℕ, ◌-◌}
use mathlib.Core.Path.{◌≡◌}
use lib.ListN as L
use Rattle.schedule.specs.Limits.{most_rows}
use Rattle.schedule.specs.Columns.{at, columns}
use Rattle.trail.specs.Trails.{Came}
use Rattle.trail.proofs.onward.Given as goal

abbrev pub invariant-loop-s : goal.invariant-loop-s
invariant-loop-s l = (L.length l.order ≡ most_rows) ×
    (L.length l.trail ≡ L.length l.initial.trail) ×
    ((free : ℕ) → Came l.n (columns l.release l.minutes l.due) (at l.by) free l.bound l.initial.trail l.from l.initial.s →
    Came l.n (columns l.release l.minutes l.due) (at l.by) free l.bound l.trail l.d l.s)

abbrev pub decreases-loop-s : goal.decreases-loop-s
decreases-loop-s l = l.n - l.s.count
