-- `order_of_plan` meets its contract: the refusal of the book, then the order of the plan.
-- Assumes nothing.
use mathlib.Core.Path.{sym, ap, ◌∙◌}
use Rattle.refusals.proofs.Tests.{handed_on}
use Rattle.readers.specs.Reads.{read_by}
use Rattle.readers.proofs.Readings.{given_refused}
use Rattle.outcomes.specs.Planning.{gives}
use Rattle.calls.proofs.CallLaws.{plan_refused}
use Rattle.calls.proofs.Ready.{ready}
use Rattle.calls.proofs.order_of_plan.Goals as goal

pub returns-in_err-given : goal.returns-in_err-given
returns-in_err-given c =
    let a = c.args in
    let refusal = c.in_err-given.field-0.0 in
    let refused = given_refused a.terms.opening (read_by a.terms a.book.now) c.read.result refusal c.read.ensures c.in_err-given.was in
    ap (λ r. gives r a.res.now) (handed_on c.from_residual.result c.from_residual.ensures.1) ∙
    sym (plan_refused a.terms a.book.now refusal.number refusal.place refused a.plan a.res.now)

pub plan_in-requires : goal.plan_in-requires
plan_in-requires c = (ready _ _ c.read.result c.in_ok-given.given c.read.ensures c.in_ok-given.was).plannable

pub returns : goal.returns
returns c =
    let a = c.args in
    c.plan_in.ensures ∙ (ready _ _ c.read.result c.in_ok-given.given c.read.ensures c.in_ok-given.was).plan a.plan a.res.now
