-- `read_words` meets its contract: the head, then the rows.
-- Assumes nothing.
use native.Mathlib.Omega.{arith}
use mathlib.Core.Path.{◌≡◌, refl, sym, ap, ◌∙◌}
use Rattle.words.specs.Words.{value, word}
use Rattle.book.specs.Tables.{reading_of}
use Rattle.book.proofs.Tests.{head_fits_lem}
use Rattle.book.proofs.Whole.{book_rows}
use Rattle.book.proofs.Readings.{head_refused, head_passed}
use Rattle.refusals.proofs.Tests.{handed_on}
use Rattle.book.proofs.read_words.Goals as goal

pub returns-in_err-head_tests : goal.returns-in_err-head_tests
returns-in_err-head_tests c =
    handed_on c.from_residual.result c.from_residual.ensures.1 ∙
    head_refused c.args.book.now c.in_err-head_tests.field-0.0 (sym c.head_tests.ensures ∙ c.in_err-head_tests.was)

pub read_rows-requires : goal.read_rows-requires
read_rows-requires c =
    let f = head_fits_lem c.args.book.now (sym c.head_tests.ensures ∙ c.in_ok-head_tests.was) in
    let p : c.value_of-pace.result ≡ value (word c.args.book.now 1) =
    c.value_of-pace.ensures ∙ ap value c.word_at-2.ensures in
    (omega (arith, f.pace.there), omega (arith, f.pace.least), omega (arith, f.pace.most))

pub returns : goal.returns
returns c =
    let ws = c.args.book.now in
    let rows : c.read_rows.result ≡ reading_of (book_rows ws) =
    rw (
      c.read_rows.ensures,
      c.value_of-pace.ensures,
      c.word_at-2.ensures,
      c.value_of-free.ensures,
      c.word_at.ensures,
    ) refl in
    rows ∙ ap reading_of (sym (head_passed ws (sym c.head_tests.ensures ∙ c.in_ok-head_tests.was)))
