-- `back_to` meets its contract: all blocks passed on the way back began above the bound.
-- Assumes nothing.
use native.Mathlib.Omega.{arith}
use Rattle.trail.proofs.Trails.{past_first, past_next, back_begun, back_none}
use Rattle.trail.proofs.back_to.Goals as goal

pub loop-k-init : goal.loop-k-init
loop-k-init c = past_first c.args.trail.now c.args.bound c.args.depth

pub returns-then-trail-k : goal.returns-then-trail-k
returns-then-trail-k c =
    let l = c.loop-k in
    back_begun _ _ _ l.k l.auto.k l.invariant c.loop-k-test.true (omega (arith, c.from.ensures, c.if-trail-k.true))

pub loop-k-preserved : goal.loop-k-preserved
loop-k-preserved c =
    let l = c.loop-k in
    past_next c.args.trail.now c.args.bound c.args.depth l.k l.auto.k l.invariant c.loop-k-test.true
    (omega (arith, c.from.ensures, c.if-trail-k.false))

pub returns : goal.returns
returns c =
    let l = c.loop-k in
    back_none _ _ _ l.k l.auto.k l.invariant c.loop-k-test.false
