-- `list` meets its contract: the refusal of the book, then the list of its rows.
-- Assumes nothing.
use mathlib.Core.Path.{sym, ap, ◌∙◌}
use Rattle.refusals.proofs.Tests.{handed_on}
use Rattle.readers.specs.Reads.{read_by}
use Rattle.readers.proofs.Readings.{given_refused}
use Rattle.outcomes.specs.Planning.{gives}
use Rattle.calls.proofs.CallLaws.{list_refused}
use Rattle.calls.proofs.Ready.{ready}
use Rattle.calls.proofs.list.Goals as goal

pub returns-in_err-day : goal.returns-in_err-day
returns-in_err-day c =
    let a = c.args in
    let refusal = c.in_err-day.field-0.0 in
    let refused = given_refused a.terms.opening (read_by a.terms a.book.now) c.read.result refusal c.read.ensures c.in_err-day.was in
    ap (λ r. gives r a.res.now) (handed_on c.from_residual.result c.from_residual.ensures.1) ∙
    sym (list_refused a.terms a.book.now refusal.number refusal.place refused a.res.now)

pub list_in-requires : goal.list_in-requires
list_in-requires c = (ready _ _ c.read.result c.in_ok-day.day c.read.ensures c.in_ok-day.was).plannable

pub returns : goal.returns
returns c =
    let a = c.args in
    c.list_in.ensures ∙ (ready _ _ c.read.result c.in_ok-day.day c.read.ensures c.in_ok-day.was).list a.res.now
