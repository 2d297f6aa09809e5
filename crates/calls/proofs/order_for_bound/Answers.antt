-- `order_for_bound` meets its contract: the refusal of the book, then the order for the bound.
-- Assumes nothing.
use mathlib.Core.Path.{sym, ap, ◌∙◌}
use lib.IntN.{ℤ}
use Rattle.refusals.proofs.Tests.{handed_on}
use Rattle.readers.specs.Reads.{read_by}
use Rattle.readers.proofs.Readings.{given_refused}
use Rattle.outcomes.specs.Outcomes.{order_outcome}
use Rattle.outcomes.proofs.Answered.{bound_back}
use Rattle.outcomes.specs.Planning.{gives}
use Rattle.calls.proofs.CallLaws.{bound_refused}
use Rattle.calls.proofs.Ready.{planning_by, ready}
use Rattle.calls.proofs.order_for_bound.Goals as goal

pub returns-in_err-given : goal.returns-in_err-given
returns-in_err-given c =
    let a = c.args in
    let refusal = c.in_err-given.field-0.0 in
    let refused = given_refused a.terms.opening (read_by a.terms a.book.now) c.read.result refusal c.read.ensures c.in_err-given.was in
    ap (λ r. gives r a.res.now) (handed_on c.from_residual.result c.from_residual.ensures.1) ∙
    sym (bound_refused a.terms a.book.now refusal.number refusal.place refused a.bound a.res.now)

pub order_in-requires : goal.order_in-requires
order_in-requires c = (ready _ _ c.read.result c.in_ok-given.given c.read.ensures c.in_ok-given.was).plannable

pub returns : goal.returns
returns c =
    let a = c.args in
    let w = c.raise in
    let y = bound_back a.bound w.result c.ranges.bound w.ensures in
    c.order_in.ensures ∙ ap (λ (z : ℤ). order_outcome (planning_by a.terms c.in_ok-given.given) z a.res.now) y ∙
    (ready _ _ c.read.result c.in_ok-given.given c.read.ensures c.in_ok-given.was).bound a.bound a.res.now
