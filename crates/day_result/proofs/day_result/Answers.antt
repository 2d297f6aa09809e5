-- `day_result` meets its contract: the refusal of the book, or what its rows and the posting come to.
-- Assumes nothing.
use mathlib.Core.Path.{sym, ◌∙◌}
use Rattle.readers.proofs.Readings.{given_refused}
use Rattle.day_result.proofs.Days.{day_refused, ready}
use Rattle.day_result.proofs.day_result.Goals as goal

pub returns-in_default : goal.returns-in_default
returns-in_default c =
    let a = c.args in
    let refusal = c.in_default.field-0 in
    let refused = given_refused 0 _ c.read.result refusal c.read.ensures c.in_default.is in
    sym (day_refused a.book.now a.posting.now refusal.number refusal.place refused)

pub result_in-requires : goal.result_in-requires
result_in-requires c = (ready _ c.read.result c.in-Ok.given c.read.ensures c.in-Ok.is).can_plan_lem

pub returns : goal.returns
returns c =
    c.result_in.ensures ∙ (ready _ c.read.result c.in-Ok.given c.read.ensures c.in-Ok.is).is_result c.args.posting.now
