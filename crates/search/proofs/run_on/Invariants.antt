-- `run_on` meets its contract: what the run from the desk leads to is what the run from the beginning leads to. Each turn takes a row.
-- Assumes nothing.
use Prim.Native.Nat.{ℕ, ◌-◌}
use mathlib.Core.List.{List}
use Rattle.schedule.specs.Columns.{at, columns}
use Rattle.picks.specs.Standing.{Sits}
use Rattle.search.proofs.Steps.{Toward}
use Rattle.search.proofs.run_on.Given as goal

abbrev pub invariant-loop-desk : goal.invariant-loop-desk
invariant-loop-desk l =
    (all : List ℕ) → Sits l.n (columns l.release l.minutes l.due) (at l.by) all
    (record { desk = l.initial.desk; count = l.initial.count; next = l.initial.next; ready = l.initial.ready }) →
    Toward l.n (columns l.release l.minutes l.due) (at l.by) all (record { desk = l.initial.desk; count = l.initial.count; next = l.initial.next; ready = l.initial.ready }) l.initial.order
    (record { desk = l.desk; count = l.count; next = l.next; ready = l.ready }) l.order

abbrev pub decreases-loop-desk : goal.decreases-loop-desk
decreases-loop-desk l = l.n - l.count
