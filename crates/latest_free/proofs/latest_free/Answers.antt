-- `latest_free` meets its contract: the refusal of the opening or the book, or what its rows come to.
-- Assumes nothing.
use mathlib.Core.Path.{sym, ap, ◌∙◌}
use Rattle.schedule.specs.Rows.{count_from}
use Rattle.refusals.proofs.Tests.{handed_on}
use Rattle.readers.proofs.Readings.{given_refused}
use Rattle.rows.specs.InColumns.{jobs_of}
use Rattle.outcomes.specs.Planning.{gives}
use Rattle.outcomes.proofs.Answered.{bound_back}
use Rattle.latest_free.specs.Calls.{latest_outcome}
use Rattle.latest_free.proofs.Outcomes.{call_refused}
use Rattle.latest_free.proofs.Columns.{ready}
use Rattle.latest_free.proofs.latest_free.Goals as goal

pub returns-in_err-given : goal.returns-in_err-given
returns-in_err-given c =
    let a = c.args in
    let refusal = c.in_err-given.field-0.0 in
    let refused = given_refused a.opening _ c.read.result refusal c.read.ensures c.in_err-given.was in
    ap (λ r. gives r a.res.now) (handed_on c.from_residual.result c.from_residual.ensures.1) ∙
    sym (call_refused a.opening a.book.now a.end a.late a.res.now refusal.number refusal.place refused)

pub latest_in-requires : goal.latest_in-requires
latest_in-requires c = (ready _ _ c.read.result c.in_ok-given.given c.read.ensures c.in_ok-given.was).can_plan_lem

pub returns : goal.returns
returns c =
    let a = c.args in
    let r = c.in_ok-given.given in
    let e = bound_back a.end c.raise.result c.ranges.end c.raise.ensures in
    let y = bound_back a.late c.raise-2.result c.ranges.late c.raise-2.ensures in
    c.latest_in.ensures ∙
    ((λ i. latest_outcome (jobs_of r.columns) (count_from 1 r.count) (e i) (y i) a.res.now) ∙
    (ready _ _ c.read.result c.in_ok-given.given c.read.ensures c.in_ok-given.was).is_call a.end a.late a.res.now)
