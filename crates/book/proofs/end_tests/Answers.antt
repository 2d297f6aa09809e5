-- `end_tests` meets its contract: count, then tail.
-- Assumes nothing.
use mathlib.Core.Path.{sym, ◌∙◌}
use Rattle.refusals.proofs.Tests.{handed_on, then_refused, then_passed}
use Rattle.book.specs.Rows.{end_tests}
use Rattle.book.proofs.end_tests.Goals as goal

pub returns-in_err-refuse_if : goal.returns-in_err-refuse_if
unfolding end_tests
returns-in_err-refuse_if c =
    handed_on c.from_residual.result c.from_residual.ensures.1 ∙
    sym (then_refused _ (rw (← c.word_at.ensures, ← c.value_of-told.ensures) (sym c.refuse_if.ensures ∙ c.in_err-refuse_if.was)))

pub returns : goal.returns
unfolding end_tests
returns c = c.refuse_if-2.ensures ∙
    sym (then_passed _ (rw (← c.word_at.ensures, ← c.value_of-told.ensures) (sym c.refuse_if.ensures ∙ c.in_ok-refuse_if.was)))
