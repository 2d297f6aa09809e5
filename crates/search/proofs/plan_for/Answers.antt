-- `plan_for` meets its contract: from each desk the blocks still to come lead to the order for the bound. Each block takes a row.
-- Assumes nothing.
use native.Mathlib.Omega.{arith}
use Rattle.search.proofs.Planning.{planning_first, planning_torn, planning_next, searched_over, searched_kept}
use Rattle.search.proofs.plan_for.Goals as goal

pub start-begin-requires : goal.start-begin-requires
start-begin-requires c = ((c.args.minutes.now, c.args.due.now, c.requires.tables), c.requires.le_n.1)

pub run_on-s-requires : goal.run_on-s-requires
run_on-s-requires c =
    let a = c.args in record { limits = c.requires.limits; tables = c.requires.tables; by_index = ((_, c.start-begin.ensures.0 a.minutes.now a.due.now c.requires.tables), c.requires.le_n.2) }

pub loop-s-init : goal.loop-s-init
loop-s-init c =
    let a = c.args in
    let b = c.start-begin.ensures in
    planning_first _ _ _ c.requires.limits _ _ _ _ _ _ b.1 b.2 (c.run_on-s.ensures _ (b.0 a.minutes.now a.due.now c.requires.tables))

pub returns-after-loop-s : goal.returns-after-loop-s
returns-after-loop-s c = searched_over _ _ _ c.requires.limits _ _ _ _ c.loop-s.invariant
    c.loop-s-test.false

pub returns-else-s-n : goal.returns-else-s-n
returns-else-s-n c =
    searched_kept _ _ _ c.requires.limits _ _ _ _ c.loop-s.invariant c.loop-s-test.true c.requires.tables.few
    c.if-s-n.false

pub next_block-b-requires : goal.next_block-b-requires
next_block-b-requires c =
    let g = c.loop-s.invariant in
    let h = g.kept c.loop-s-test.true in record {
      limits = c.requires.limits;
      tables = c.requires.tables;
      by_index = (
        (
          h.rest,
          h.way.sits,
          planning_torn _ _ _ c.requires.limits _ _ _ _ g c.loop-s-test.true c.if-s-n.true,
        ),
        g.places,
      );
    }

pub loop-s-smaller : goal.loop-s-smaller
loop-s-smaller c =
    let g = c.loop-s.invariant in
    let low = c.loop-s-test.true in
    let h = g.kept low in
    omega (
      arith,
      (c.next_block-b.ensures _ h.way.sits
          (planning_torn _ _ _ c.requires.limits _ _ _ _ g low c.if-s-n.true)).counts,
    )

pub loop-s-preserved : goal.loop-s-preserved
loop-s-preserved c =
    let g = c.loop-s.invariant in
    let low = c.loop-s-test.true in
    let more = c.if-s-n.true in
    planning_next _ _ _ c.requires.limits _ _ _ _ g low more _ _
    (c.next_block-b.ensures _ (g.kept low).way.sits (planning_torn _ _ _ c.requires.limits _ _ _ _ g low more))
