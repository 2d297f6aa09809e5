-- `row_words` meets its contract: the words at the row's place, which lies inside the book.
-- Assumes nothing.
use Rattle.row_calls.proofs.Places.{inside}
use Rattle.row_calls.proofs.row_words.Goals as goal

pub words_at-requires : goal.words_at-requires
words_at-requires c =
    let s = c.args in inside s.profile s.book.now s.row c.row_place-found.result c.row_place-found.ensures
