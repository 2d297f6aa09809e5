-- `number_tests` meets its contract: cut, kind, full, twice; the column has as many numbers as there are rows.
-- Assumes nothing.
use native.Mathlib.Omega.{arith}
use Prim.Native.Nat.{ℕ, ◌≤◌}
use mathlib.Core.Path.{◌≡◌, sym, ◌∙◌}
use mathlib.Core.List.{List}
use lib.ListN.{length, take, length-take}
use Rattle.refusals.proofs.Tests.{handed_on, then_refused, then_passed}
use Rattle.row_reader.specs.RowWords.{number_tests}
use Rattle.row_reader.proofs.number_tests.Goals as goal

-- The first numbers of a column are as many as are taken.
taken : (count : ℕ) (numbers : List ℕ) → count ≤ length numbers → length (take count numbers) ≡ count
taken count numbers l = omega (arith, length-take count numbers)

pub returns-in_err-kind_tests : goal.returns-in_err-kind_tests
unfolding number_tests
returns-in_err-kind_tests c =
    handed_on c.from_residual.result c.from_residual.ensures.1 ∙
    sym (then_refused _ (sym c.kind_tests.ensures ∙ c.in_err-kind_tests.was))

pub returns-in_err-refuse_if : goal.returns-in_err-refuse_if
unfolding number_tests
returns-in_err-refuse_if c =
    let n = taken c.args.count c.args.numbers.now (omega arith) in
    handed_on c.from_residual-in_err-refuse_if.result c.from_residual-in_err-refuse_if.ensures.1 ∙
    rw n (sym (
    then_passed _ (sym c.kind_tests.ensures ∙ c.in_ok-kind_tests.was) ∙
    then_refused _ (sym c.refuse_if.ensures ∙ c.in_err-refuse_if.was)))

pub returns : goal.returns
unfolding number_tests
returns c =
    let n = taken c.args.count c.args.numbers.now (omega arith) in
    rw (n, c.refuse_if-2.ensures, c.number_stands-stands.ensures, c.value_of-number.ensures, c.word_at.ensures) (sym (
    then_passed _ (sym c.kind_tests.ensures ∙ c.in_ok-kind_tests.was) ∙
    then_passed _ (sym c.refuse_if.ensures ∙ c.in_ok-refuse_if.was)))
