-- A book that passed tests 1 to 7 comes out as the test of its rows does.
-- Assumes nothing.
use Rattle.std.specs.Prelude.{Ok, Err}
use mathlib.Core.Path.{◌≡◌, refl}
use Rattle.refusals.specs.Tests.{Tested, refusal_at}
use Rattle.pairs.specs.Pairs.{number_word}
use Rattle.pairs.specs.Clashes.{PairsSettled}
use Rattle.pairs.specs.Clashes as pairs
use Rattle.pairs.proofs.Clashes.{pairs_settled}
use Rattle.book.specs.Rows.{accepted, refused_or}
use Rattle.book.specs.Book.{read_words}
use Rattle.readers.specs.Rules.{clash_by, number_by, rule_tests}
use Rattle.readers.specs.Reads.{read_for}
use Rattle.readers.specs.Settled.{Settled, BooksSettled, unclashing, clashing}
use Rattle.readers.proofs.Rules.{clash_mutual}
use Rattle.readers.proofs.Contents.{tested_by_lem}

pub books_settled : BooksSettled
unfolding read_for
books_settled profile book day reads =
    go (rule_tests profile day.rows) refl
    (pairs_settled (clash_by profile) (clash_mutual profile) (number_by profile) day.rows)
  where
    gives : (o : Tested) → rule_tests profile day.rows ≡ o → read_for profile book ≡ refused_or o (accepted day)
    gives = tested_by_lem (rule_tests profile) (read_words book) day reads

    go : (o : Tested) → rule_tests profile day.rows ≡ o →
        PairsSettled (clash_by profile) (number_by profile) day.rows o → Settled profile book day
    go (Ok _) e (pairs.unclashing h) = unclashing h (gives (Ok tt) e)
    go (Err _) e (pairs.clashing j k h) = clashing j k h (gives (Err (refusal_at (number_by profile) (number_word k))) e)
