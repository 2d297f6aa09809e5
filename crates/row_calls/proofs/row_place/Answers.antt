-- `row_place` meets its contract: the book is read, and the place is told by the count of its rows.
-- Assumes nothing.
use mathlib.Core.Path.{sym, ap, ◌∙◌}
use Rattle.book.specs.Rows.{Contents}
use Rattle.refusals.proofs.Tests.{handed_on}
use Rattle.readers.specs.Reads.{without_opening, read_by}
use Rattle.readers.proofs.Readings.{given_passed, given_refused}
use Rattle.row_calls.specs.Places.{place_in}
use Rattle.row_calls.proofs.Places.{place_refused}
use Rattle.row_calls.proofs.row_place.Goals as goal

pub returns-in_err-given : goal.returns-in_err-given
returns-in_err-given c =
    let a = c.args in
    let x = read_by (without_opening a.profile) a.book.now in
    handed_on c.from_residual.result c.from_residual.ensures.1 ∙
    place_refused x c.in_err-given.field-0.0 a.row (given_refused 0 x c.read.result c.in_err-given.field-0.0 c.read.ensures c.in_err-given.was)

pub returns : goal.returns
returns c =
    let a = c.args in
    let x = read_by (without_opening a.profile) a.book.now in
    let d = given_passed 0 x c.read.result c.in_ok-given.given c.read.ensures c.in_ok-given.was in
    c.place_among.ensures d.day d.count ∙ ap (λ (y : Contents). place_in y a.row) (sym d.contents)
