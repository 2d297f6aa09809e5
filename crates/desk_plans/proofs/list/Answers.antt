-- `list` meets its contract: no desk to plan, no row left, then the list of the columns.
-- Assumes nothing.
use native.Mathlib.Omega.{arith}
use mathlib.Core.Path.{sym, ◌∙◌}
use Rattle.desk_plans.proofs.PlanCalls.{list_away}
use Rattle.desk_plans.proofs.PlansLeft.{ready, away, list_none, plannable, list_done}
use Rattle.desk_plans.proofs.list.Goals as goal

pub returns-in_default : goal.returns-in_default
returns-in_default c = sym (list_away _ _ (away _ _ c.look.ensures c.in_default.is))

pub returns-then-left-eq0 : goal.returns-then-left-eq0
returns-then-left-eq0 c = list_none _ _ (ready _ _ _ c.look.ensures c.in-Some.is) c.if-left-eq0.true _

pub bounds-desk-1 : goal.bounds-desk-1
bounds-desk-1 c = omega (arith, (ready _ _ _ c.look.ensures c.in-Some.is).desk.long)

pub list_in-requires : goal.list_in-requires
list_in-requires c = plannable _ _ (ready _ _ _ c.look.ensures c.in-Some.is) (omega (arith, c.if-left-eq0.false))

pub returns : goal.returns
returns c = c.list_in.ensures ∙ list_done _ _ (ready _ _ _ c.look.ensures c.in-Some.is) (omega (arith, c.if-left-eq0.false)) _
