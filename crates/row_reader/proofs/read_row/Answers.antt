-- `read_row` meets its contract: the row, or the refusal of its tests.
-- Assumes nothing.
use mathlib.Core.Path.{refl, sym, ◌∙◌}
use lib.ListN.{take}
use Rattle.refusals.proofs.Tests.{handed_on}
use Rattle.row_reader.specs.Cited.{row_read_of}
use Rattle.row_reader.proofs.Tests.{row_fits}
use Rattle.row_reader.proofs.read_row.Goals as goal

pub returns-in_err-row_tests : goal.returns-in_err-row_tests
unfolding row_read_of
returns-in_err-row_tests c =
    handed_on c.from_residual.result c.from_residual.ensures.1 ∙
    rw (sym c.row_tests.ensures ∙ c.in_err-row_tests.was) refl

pub row_of-requires : goal.row_of-requires
row_of-requires c =
    let f = row_fits (take c.args.count c.args.numbers.now) c.args.place c.args.rest.now
    (sym c.row_tests.ensures ∙ c.in_ok-row_tests.was) in
    (f.due.class, f.release.most, f.pages.most, c.requires.3, c.requires.4)

pub returns : goal.returns
unfolding row_read_of
returns c = rw (c.row_of.ensures, sym c.row_tests.ensures ∙ c.in_ok-row_tests.was) refl
