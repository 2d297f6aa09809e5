-- `order_of_plan` meets its contract: no desk to plan, no row left, then the order of the columns with its rows put in.
-- Assumes nothing.
use native.Mathlib.Omega.{arith}
use mathlib.Core.Path.{sym, ap, ◌∙◌}
use Rattle.std.specs.Prelude.{Ok}
use Rattle.refusals.proofs.Tests.{handed_on}
use Rattle.outcomes.specs.Outcomes.{OrderAnswer}
use Rattle.outcomes.specs.Planning.{gives}
use Rattle.desk_plans.proofs.PlanCalls.{plan_away}
use Rattle.desk_plans.proofs.PlansLeft.{ready, away, plan_none, plannable, plan_done}
use Rattle.desk_plans.proofs.order_of_plan.Goals as goal

pub returns-in_default : goal.returns-in_default
returns-in_default c = sym (plan_away _ _ _ (away _ _ c.look.ensures c.in_default.is))

pub returns-then-n-eq0 : goal.returns-then-n-eq0
returns-then-n-eq0 c = plan_none _ _ (ready _ _ _ c.look.ensures c.in-Some.is) c.if-n-eq0.true _ _

pub bounds-desk-1 : goal.bounds-desk-1
bounds-desk-1 c = omega (arith, (ready _ _ _ c.look.ensures c.in-Some.is).desk.long)

pub plan_in-requires : goal.plan_in-requires
plan_in-requires c = plannable _ _ (ready _ _ _ c.look.ensures c.in-Some.is) (omega (arith, c.if-n-eq0.false))

pub returns-in_err-attained : goal.returns-in_err-attained
returns-in_err-attained c =
    let r = ready _ _ _ c.look.ensures c.in-Some.is in
    ap (λ (a : OrderAnswer). gives a c.plan_in.new.res) (handed_on c.from_residual.result c.from_residual.ensures.1) ∙
    plan_done _ _ r (omega (arith, c.if-n-eq0.false)) _ _ _ c.plan_in.ensures c.in_err-attained.was

pub put_rows-requires : goal.put_rows-requires
put_rows-requires c =
    let r = ready _ _ _ c.look.ensures c.in-Some.is in
    let p = plan_done _ _ r (omega (arith, c.if-n-eq0.false)) _ _ _ c.plan_in.ensures c.in_ok-attained.was in
    (p.0, p.1)

pub returns : goal.returns
returns c =
    let r = ready _ _ _ c.look.ensures c.in-Some.is in
    let p = plan_done _ _ r (omega (arith, c.if-n-eq0.false)) _ _ _ c.plan_in.ensures c.in_ok-attained.was in
    ap (gives (Ok c.in_ok-attained.attained)) c.put_rows.ensures ∙ p.2
