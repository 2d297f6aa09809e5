-- `word_tests` meets its contract: cut and kind, then range.
-- Assumes nothing.
use mathlib.Core.Path.{sym, ◌∙◌}
use Rattle.refusals.proofs.Tests.{handed_on, then_refused, then_passed}
use Rattle.words.specs.WordTests.{word_tests}
use Rattle.words.proofs.word_tests.Goals as goal

pub returns-in_err-kind_tests : goal.returns-in_err-kind_tests
unfolding word_tests
returns-in_err-kind_tests c =
    handed_on c.from_residual.result c.from_residual.ensures.1 ∙
    sym (then_refused _ (sym c.kind_tests.ensures ∙ c.in_err-kind_tests.was))

pub returns : goal.returns
unfolding word_tests
returns c = rw (c.refuse_if.ensures, c.is_outside.ensures, c.value_of-v.ensures, c.word_at.ensures) (
    sym (then_passed _ (sym c.kind_tests.ensures ∙ c.in_ok-kind_tests.was)))
