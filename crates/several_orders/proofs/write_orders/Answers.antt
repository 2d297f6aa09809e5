-- `write_orders` meets its contract: each turn writes the order of one desk more.
-- Assumes nothing.
use native.Mathlib.Omega.{arith}
use Prim.Native.Nat.{◌+◌, ◌≤◌, ◌<◌}
use mathlib.Core.Path.{◌≡◌}
use lib.ListN.{length, length-take, length-drop}
use Rattle.schedule.specs.Columns.{at}
use borrow.Author.Rules.{rules}
use Rattle.several_orders.proofs.Writing.{written_none, written_more, written_all, same_room, room}
use Rattle.several_orders.proofs.write_orders.Goals as goal
use Rattle.several_orders.proofs.write_orders.Goals.{In-loop-d}

pub loop-d-init : goal.loop-d-init
loop-d-init c = written_none _ _ _ _ _ _ _ _

pub place_within-k-requires : goal.place_within-k-requires
place_within-k-requires c =
    let l = (c.requires.1 c.loop-d.d (omega arith)).0.listed in
    (l.few, l.late_places, omega arith)

pub offset_bounds-fronts-k : goal.offset_bounds-fronts-k
offset_bounds-fronts-k c =
    let p = c.requires.1 c.loop-d.d (omega arith) in
    record { fits = omega (arith, c.place_within-k.ensures, p.1, p.0.listed.few) }

pub bounds-fronts-k : goal.bounds-fronts-k
bounds-fronts-k c =
    let p = c.requires.1 c.loop-d.d (omega arith) in
    omega (arith, c.place_within-k.ensures, p.1, p.0.listed.few)

-- The order of this desk has room in the buffer, which is as long as it was.
roomy : (c : In-loop-d) →
    (c.loop-d.at + at c.args.rows.now c.loop-d.d ≤ length c.loop-d.res) × (length c.loop-d.res ≡ length c.args.res.now)
roomy c =
    let a = c.args in
    let l = c.loop-d in
    let r = room a.free.now a.rows.now a.plans.now a.columns.now a.fronts.now a.bound a.desks l.d (omega arith) in
    let s = same_room a.free.now a.rows.now a.plans.now a.columns.now a.fronts.now a.bound a.desks _ _ _ _ l.invariant c.requires.2 in
    (omega (arith, r, s, l.invariant.rows_so_far, c.requires.2), s)

pub offset_bounds-res-at : goal.offset_bounds-res-at
offset_bounds-res-at c =
    let f = roomy (goal.at.offset_bounds-res-at c).In-loop-d in
    let h : c.loop-d.at < length c.args.res.now = omega (arith, (c.requires.1 c.loop-d.d (omega arith)).0.plannable.low, f) in
    search rules

pub slice_bounds-order_for-count : goal.slice_bounds-order_for-count
slice_bounds-order_for-count c = omega (arith, roomy (goal.at.slice_bounds-order_for-count c).In-loop-d)

pub slice_bounds-order_for-start : goal.slice_bounds-order_for-start
slice_bounds-order_for-start c = omega (arith, roomy (goal.at.slice_bounds-order_for-start c).In-loop-d)

pub slice_bounds-order_for-end : goal.slice_bounds-order_for-end
slice_bounds-order_for-end c = omega (arith, roomy (goal.at.slice_bounds-order_for-end c).In-loop-d)

pub order_for-requires : goal.order_for-requires
order_for-requires c =
    let f = roomy (goal.at.order_for-requires c).In-loop-d in
    let p = (c.requires.1 c.loop-d.d (omega arith)).0.plannable in
    record { limits = p.limits; le_n = (p.low, p.few, p.early, simp (length-take, length-drop) (omega (arith, f))) }

pub overflow_add-at : goal.overflow_add-at
overflow_add-at c = record { fits = omega (arith, roomy (goal.at.overflow_add-at c).In-loop-d) }

pub loop-d-preserved : goal.loop-d-preserved
loop-d-preserved c =
    let a = c.args in
    let l = c.loop-d in
    written_more a.free.now a.rows.now a.plans.now a.columns.now a.fronts.now a.bound a.desks c.requires.1 _ l.res l.at l.d l.invariant
    c.loop-d-test.true _ c.place_within-k.ensures _ c.order_for.ensures.buffer

pub shape_of-res : goal.shape_of-res
shape_of-res c =
    let a = c.args in
    same_room a.free.now a.rows.now a.plans.now a.columns.now a.fronts.now a.bound a.desks _ _ _ _ c.loop-d.invariant c.requires.2

pub returns : goal.returns
returns c =
    let a = c.args in
    written_all a.free.now a.rows.now a.plans.now a.columns.now a.fronts.now a.bound a.desks _ _ _ _ c.loop-d.invariant (omega arith)
