-- `open` meets its contract: the refusal of the opening or the book, then a run that is too short, then the words of the desk.
-- Assumes nothing.
use mathlib.Core.Path.{sym, ap, ◌∙◌}
use Rattle.refusals.proofs.Tests.{handed_on}
use Rattle.readers.specs.Reads.{ordering_rule, read_by}
use Rattle.readers.proofs.Readings.{given_refused}
use Rattle.outcomes.specs.Planning.{gives}
use Rattle.desk_open.specs.Opens.{OpenAnswer}
use Rattle.desk_open.proofs.OpenCall.{open_no, given_sizes, open_narrow, open_done}
use Rattle.desk_open.proofs.open.Goals as goal

pub returns-in_err-given : goal.returns-in_err-given
returns-in_err-given c =
    let a = c.args in
    let refusal = c.in_err-given.field-0.0 in
    let x = read_by (ordering_rule a.opening) a.book.now in
    ap (λ (r : OpenAnswer). gives r a.desk.now) (handed_on c.from_residual.result c.from_residual.ensures.1) ∙
    sym (open_no a.opening a.book.now a.desk.now refusal.number refusal.place
    (given_refused a.opening x c.read.result refusal c.read.ensures c.in_err-given.was))

pub returns-then-desk-lt-WORDS : goal.returns-then-desk-lt-WORDS
returns-then-desk-lt-WORDS c =
    let a = c.args in
    open_narrow a.opening a.book.now c.read.result c.in_ok-given.given c.read.ensures c.in_ok-given.was a.desk.now c.if-desk-lt-WORDS.true

pub put_day-requires : goal.put_day-requires
put_day-requires c =
    let a = c.args in
    let sizes = given_sizes a.opening a.book.now c.read.result c.in_ok-given.given c.read.ensures c.in_ok-given.was in
    (sizes.0, c.if-desk-lt-WORDS.false, sizes.1, sizes.2, sizes.3, sizes.4)

pub returns : goal.returns
returns c =
    let a = c.args in
    open_done a.opening a.book.now c.read.result c.in_ok-given.given c.read.ensures c.in_ok-given.was a.desk.now
    c.if-desk-lt-WORDS.false _ c.put_day.ensures
