-- `order_by_arrival` meets its contract: the one plan, where its worst lateness is within the bound.
-- Assumes nothing.
use Rattle.schedule.specs.Columns.{columns}
use Rattle.arrival.proofs.Arrived.{arrival_unkept, arrival_given}
use Prim.Native.Nat.{ℕ}
use mathlib.Core.Path.{ap}
use mathlib.Core.List.{List, ◌++◌}
use lib.ListN.{drop}
use Rattle.arrival.proofs.order_by_arrival.Goals as goal

pub returns-then-bound-desk : goal.returns-then-bound-desk
returns-then-bound-desk c =
    let a = c.args in
    let job = columns a.release.now a.minutes.now a.due.now in
    arrival_unkept job a.n a.free c.requires.le_n.0 c.arrive-plan.result
    c.arrive-plan.ensures c.requires.limits a.bound a.out.now c.if-bound-desk.true

pub returns : goal.returns
returns c =
    let a = c.args in
    let job = columns a.release.now a.minutes.now a.due.now in
    arrival_given job a.n a.free c.requires.le_n.0
    c.arrive-plan.result
    c.arrive-plan.ensures c.requires.limits a.bound a.out.now
    c.if-bound-desk.false _
    (ap (λ (x : List ℕ). x ++ drop a.n a.out.now) c.copy_from_slice.ensures.after)
