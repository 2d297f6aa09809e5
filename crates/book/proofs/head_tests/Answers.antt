-- `head_tests` meets its contract: the tests of the free minute, then those of the pace.
-- Assumes nothing.
use mathlib.Core.Path.{sym, ◌∙◌}
use Rattle.refusals.proofs.Tests.{handed_on, then_refused, then_passed}
use Rattle.book.specs.Book.{head_tests}
use Rattle.book.proofs.head_tests.Goals as goal

pub returns-in_err-word_tests : goal.returns-in_err-word_tests
unfolding head_tests
returns-in_err-word_tests c =
    handed_on c.from_residual.result c.from_residual.ensures.1 ∙
    sym (then_refused _ (sym c.word_tests.ensures ∙ c.in_err-word_tests.was))

pub returns : goal.returns
unfolding head_tests
returns c = c.word_tests-2.ensures ∙ sym (then_passed _ (sym c.word_tests.ensures ∙ c.in_ok-word_tests.was))
