-- `plan_in` meets its contract: a number that is none of the plans, then the order for the plan's lateness.
-- Assumes nothing.
use native.Mathlib.Omega.{arith}
use Rattle.outcomes.proofs.Answered.{front_sized, plan_none, plan_past, plan_done}
use Rattle.outcomes.proofs.plan_in.Goals as goal

pub list-front-requires : goal.list-front-requires
list-front-requires c =
    let p = c.requires in record { limits = p.limits; le_n = (p.low, p.few, p.early, p.rule) }

pub returns-then-k-eq0 : goal.returns-then-k-eq0
returns-then-k-eq0 c =
    let l = c.list-front in
    plan_none c.requires l.result l.ensures c.args.plan c.if-k-eq0.true c.args.res.now

pub returns-then-count-k : goal.returns-then-count-k
returns-then-count-k c =
    let l = c.list-front in
    plan_past c.requires l.result l.ensures c.args.plan c.if-count-k.true c.args.res.now

pub bounds-front-k : goal.bounds-front-k
bounds-front-k c =
    let l = c.list-front in
    omega (arith, (front_sized c.requires l.result l.ensures).few, c.if-count-k.false)

pub order_in-requires : goal.order_in-requires
order_in-requires c = c.requires

pub returns : goal.returns
returns c =
    let l = c.list-front in
    plan_done c.requires l.result l.ensures c.args.plan
    (omega (arith, c.if-k-eq0.false)) c.if-count-k.false
    c.args.res.now _ c.order_in.ensures
