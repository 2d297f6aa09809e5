-- `read_into` meets its contract: the refusal of the book, or its desk put into its place.
-- Assumes nothing.
use Rattle.refusals.proofs.Tests.{handed_on}
use Rattle.readers.proofs.Readings.{given_passed}
use Rattle.several_books.proofs.Reading.{can_plan_lem, into_refused, into_accepted}
use Rattle.several_books.proofs.read_into.Goals as goal

pub returns-in_err-given : goal.returns-in_err-given
returns-in_err-given c =
    let a = c.args in
    into_refused a.opening a.book.now c.read.result c.read.ensures _ _ _ _ _ c.requires.1 a.d c.in_err-given.field-0.0 c.in_err-given.was
    _ (handed_on c.from_residual.result c.from_residual.ensures.1)

pub list-front-requires : goal.list-front-requires
list-front-requires c =
    let d = given_passed _ _ c.read.result c.in_ok-given.given c.read.ensures c.in_ok-given.was in
    let p = can_plan_lem _ _ c.in_ok-given.given d.day d.contents d.free d.count d.columns in
    record { limits = p.limits; le_n = (p.low, p.few, p.early, p.rule) }

pub returns : goal.returns
returns c =
    let list = c.list-front in
    let a = c.args in
    into_accepted a.opening a.book.now c.read.result c.read.ensures _ _ _ _ _ c.requires.1 a.d
    c.requires.0 c.in_ok-given.given c.in_ok-given.was list.result list.ensures
