-- `run_on` meets its contract: what the run from the desk leads to is what the run from the beginning leads to. Each turn takes a row.
-- Assumes nothing.
use mathlib.Core.Path.{sym, ◌∙◌}
use native.Mathlib.Omega.{arith}
use Rattle.search.proofs.Picked.{row_high, room, none_left, first_mem, first_within_lem, second_within, deciding}
use Rattle.search.proofs.Steps.{toward_first, ran_over, ran_none, ran_torn, toward_next, toward_less}
use Rattle.search.proofs.run_on.Goals as goal
use Rattle.search.proofs.run_on.Goals.{then-i-eq0-via-then-i-eq0, then-i-eq0-via-else-i-eq0+then-not-decided_by}

pub loop-desk-init : goal.loop-desk-init
loop-desk-init c = λ all g. toward_first _ _ _ all _ _ g c.requires.by_index.1

pub returns-after-loop-desk : goal.returns-after-loop-desk
returns-after-loop-desk c = λ all g.
    ran_over _ _ _ c.requires.limits all _ _ _ _ (c.loop-desk.invariant all g) _ c.loop-desk-test.false

pub picks-p-requires : goal.picks-p-requires
picks-p-requires c =
    let o = c.loop-desk.invariant c.requires.by_index.0.0
    c.requires.by_index.0.1 in
    (c.requires.tables.few, (_, _, _, c.requires.tables, o.sits.stands))

pub returns-then-i-eq0 : goal.returns-then-i-eq0
returns-then-i-eq0 c = λ all g.
    let o = c.loop-desk.invariant all g in
    let q = c.picks-p.ensures _ _ _ c.requires.tables o.sits.stands o.sits.late in
    elim c.then-i-eq0.branch [
      | then-i-eq0-via-then-i-eq0 w ↦ ran_none _ _ _ c.requires.limits all _ _ _ _ o
          (none_left _ _ _ c.requires.tables _ _ o.sits _ q.0 w.if-i-eq0.true) _
      | then-i-eq0-via-else-i-eq0+then-not-decided_by w ↦
          let d = deciding _ _ _ c.requires.tables _ _ o.sits _ _ q.0 q.1 _ w.decided_by.ensures w.if-i-eq0.false in
          ran_torn _ _ _ c.requires.limits all _ _ _ _ o (sym d ∙ w.if-not-decided_by.true) _
    ]

pub decided_by-requires : goal.decided_by-requires
decided_by-requires c =
    let o = c.loop-desk.invariant
    c.requires.by_index.0.0
    c.requires.by_index.0.1 in
    let q = c.picks-p.ensures _ _ _ c.requires.tables o.sits.stands o.sits.late in (
      omega (arith, first_within_lem _ _ _ c.requires.tables _ _ o.sits _ q.0),
      omega (arith, second_within _ _ _ c.requires.tables _ _ o.sits _ q.1),
    )

pub overflow_cast-order : goal.overflow_cast-order
overflow_cast-order c =
    let o = c.loop-desk.invariant
    c.requires.by_index.0.0
    c.requires.by_index.0.1 in
    let q = c.picks-p.ensures _ _ _ c.requires.tables o.sits.stands o.sits.late in
    let m = first_mem _ _ _ c.requires.tables _ _ o.sits _ q.0 c.if-i-eq0.false in
    record { fits = omega (arith, row_high _ _ _ c.requires.tables _ _ o.sits _ m) }

pub offset_bounds-order-count : goal.offset_bounds-order-count
offset_bounds-order-count c =
    let o = c.loop-desk.invariant
    c.requires.by_index.0.0
    c.requires.by_index.0.1 in
    let q = c.picks-p.ensures _ _ _ c.requires.tables o.sits.stands o.sits.late in
    let m = first_mem _ _ _ c.requires.tables _ _ o.sits _ q.0 c.if-i-eq0.false in
    record { fits = omega (arith, room _ _ _ c.requires.tables _ _ o.sits _ m) }

pub bounds-order-count : goal.bounds-order-count
bounds-order-count c =
    let o = c.loop-desk.invariant
    c.requires.by_index.0.0
    c.requires.by_index.0.1 in
    let q = c.picks-p.ensures _ _ _ c.requires.tables o.sits.stands o.sits.late in
    let m = first_mem _ _ _ c.requires.tables _ _ o.sits _ q.0 c.if-i-eq0.false in
    room _ _ _ c.requires.tables _ _ o.sits _ m

pub take-m-requires : goal.take-m-requires
take-m-requires c =
    let o = c.loop-desk.invariant
    c.requires.by_index.0.0
    c.requires.by_index.0.1 in
    let q = c.picks-p.ensures _ _ _ c.requires.tables o.sits.stands o.sits.late in
    let m = first_mem _ _ _ c.requires.tables _ _ o.sits _ q.0 c.if-i-eq0.false in record { limits = c.requires.limits; tables = (c.requires.tables, (_, _, o.sits, m)) }

pub overflow_add-count : goal.overflow_add-count
overflow_add-count c =
    let o = c.loop-desk.invariant
    c.requires.by_index.0.0
    c.requires.by_index.0.1 in
    let q = c.picks-p.ensures _ _ _ c.requires.tables o.sits.stands o.sits.late in
    let m = first_mem _ _ _ c.requires.tables _ _ o.sits _ q.0 c.if-i-eq0.false in
    record { fits = omega (arith, room _ _ _ c.requires.tables _ _ o.sits _ m) }

pub loop-desk-smaller : goal.loop-desk-smaller
loop-desk-smaller c =
    let o = c.loop-desk.invariant
    c.requires.by_index.0.0
    c.requires.by_index.0.1 in
    let q = c.picks-p.ensures _ _ _ c.requires.tables o.sits.stands o.sits.late in
    let m = first_mem _ _ _ c.requires.tables _ _ o.sits _ q.0 c.if-i-eq0.false in
    toward_less _ _ _ c.requires.limits _ _ _ _ _ o _ q.0 m _ (c.take-m.ensures _ _ o.sits m)

pub loop-desk-preserved : goal.loop-desk-preserved
loop-desk-preserved c = λ all g.
    let o = c.loop-desk.invariant all g in
    let q = c.picks-p.ensures _ _ _ c.requires.tables o.sits.stands o.sits.late in
    let z = c.if-i-eq0.false in
    let m = first_mem _ _ _ c.requires.tables _ _ o.sits _ q.0 z in
    let d = deciding _ _ _ c.requires.tables _ _ o.sits _ _ q.0 q.1 _ c.decided_by.ensures z in
    toward_next _ _ _ c.requires.limits all _ _ _ _ o _ q.0 m _ (c.take-m.ensures _ _ o.sits m)
    (sym d ∙ c.if-not-decided_by.false) (room _ _ _ c.requires.tables _ _ o.sits _ m)
