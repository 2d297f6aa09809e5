-- `verdict` meets its contract: the refusal of the book, then the verdict on its rows.
-- Assumes nothing.
use mathlib.Core.Path.{sym, ◌∙◌}
use Rattle.refusals.proofs.Tests.{handed_on}
use Rattle.readers.specs.Reads.{read_by}
use Rattle.readers.proofs.Readings.{given_refused}
use Rattle.calls.proofs.CallLaws.{verdict_refused}
use Rattle.calls.proofs.Ready.{ready}
use Rattle.calls.proofs.verdict.Goals as goal

pub returns-in_err-given : goal.returns-in_err-given
returns-in_err-given c =
    let a = c.args in
    let refusal = c.in_err-given.field-0.0 in
    let refused = given_refused a.terms.opening (read_by a.terms a.book.now) c.read.result refusal c.read.ensures c.in_err-given.was in
    handed_on c.from_residual.result c.from_residual.ensures.1 ∙
    sym (verdict_refused a.terms a.book.now refusal.number refusal.place refused a.posting.now)

pub verdict_in-requires : goal.verdict_in-requires
verdict_in-requires c = (ready _ _ c.read.result c.in_ok-given.given c.read.ensures c.in_ok-given.was).plannable

pub returns : goal.returns
returns c =
    let a = c.args in
    c.verdict_in.ensures ∙ (ready _ _ c.read.result c.in_ok-given.given c.read.ensures c.in_ok-given.was).verdict a.posting.now
