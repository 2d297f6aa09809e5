-- `kind_tests` meets its contract: cut, then kind.
-- Assumes nothing.
use mathlib.Core.Path.{sym, ◌∙◌}
use Rattle.refusals.proofs.Tests.{handed_on, then_refused, then_passed}
use Rattle.words.specs.WordTests.{kind_tests}
use Rattle.words.proofs.kind_tests.Goals as goal

pub returns-in_err-refuse_if : goal.returns-in_err-refuse_if
unfolding kind_tests
returns-in_err-refuse_if c =
    handed_on c.from_residual.result c.from_residual.ensures.1 ∙
    sym (then_refused _ (sym c.refuse_if.ensures ∙ c.in_err-refuse_if.was))

pub returns : goal.returns
unfolding kind_tests
returns c = rw (c.refuse_if-2.ensures, c.kind_of.ensures, c.word_at.ensures) (
    sym (then_passed _ (sym c.refuse_if.ensures ∙ c.in_ok-refuse_if.was)))
