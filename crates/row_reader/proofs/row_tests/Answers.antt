-- `row_tests` meets its contract: the tests of number, release, pages and due, one after the other.
-- Assumes nothing.
use mathlib.Core.Path.{sym, ◌∙◌}
use Rattle.refusals.proofs.Tests.{handed_on, then_refused, then_passed}
use Rattle.row_reader.specs.RowWords.{row_tests}
use Rattle.row_reader.proofs.row_tests.Goals as goal

pub returns-in_err-number_tests : goal.returns-in_err-number_tests
unfolding row_tests
returns-in_err-number_tests c =
    handed_on c.from_residual.result c.from_residual.ensures.1 ∙
    sym (then_refused _ (sym c.number_tests.ensures ∙ c.in_err-number_tests.was))

pub returns-in_err-word_tests : goal.returns-in_err-word_tests
unfolding row_tests
returns-in_err-word_tests c =
    handed_on c.from_residual-in_err-word_tests.result c.from_residual-in_err-word_tests.ensures.1 ∙
    sym (
    then_passed _ (sym c.number_tests.ensures ∙ c.in_ok-number_tests.was) ∙
    then_refused _ (sym c.word_tests.ensures ∙ c.in_err-word_tests.was))

pub returns-in_err-word_tests-2 : goal.returns-in_err-word_tests-2
unfolding row_tests
returns-in_err-word_tests-2 c =
    handed_on c.from_residual-in_err-word_tests-2.result c.from_residual-in_err-word_tests-2.ensures.1 ∙
    sym (
    then_passed _ (sym c.number_tests.ensures ∙ c.in_ok-number_tests.was) ∙
    (then_passed _ (sym c.word_tests.ensures ∙ c.in_ok-word_tests.was) ∙
    then_refused _ (sym c.word_tests-2.ensures ∙ c.in_err-word_tests-2.was)))

pub returns : goal.returns
unfolding row_tests
returns c = c.due_tests.ensures ∙ sym (
    then_passed _ (sym c.number_tests.ensures ∙ c.in_ok-number_tests.was) ∙
    (then_passed _ (sym c.word_tests.ensures ∙ c.in_ok-word_tests.was) ∙
    then_passed _ (sym c.word_tests-2.ensures ∙ c.in_ok-word_tests-2.was)))
