-- `read` meets its contract: opening minutes past the most are refused, with nothing of the book.
-- Assumes nothing.
use mathlib.Core.Path.{sym, subst, ◌∙◌}
use Rattle.refusals.proofs.Tests.{handed_on}
use Rattle.readers.specs.Reads.{read_by, Gives}
use Rattle.readers.proofs.Readings.{opening_refused, opening_passed}
use Rattle.readers.proofs.read.Goals as goal

pub returns-in_err-refuse_if : goal.returns-in_err-refuse_if
returns-in_err-refuse_if c =
    let a = c.args in
    subst (Gives a.terms.opening (read_by a.terms a.book.now)) (sym (handed_on c.from_residual.result c.from_residual.ensures.1))
    (opening_refused a.terms a.book.now c.in_err-refuse_if.field-0.0 (sym c.refuse_if.ensures ∙ c.in_err-refuse_if.was))

pub read_told-requires : goal.read_told-requires
read_told-requires c = opening_passed c.args.terms c.args.book.now (sym c.refuse_if.ensures ∙ c.in_ok-refuse_if.was)
