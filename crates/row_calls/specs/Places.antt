-- The calls for a row by its number: the place of its number word, and the stretch of the book that holds its words.
-- Rests on: the readers, the pairs' number words.
use Rattle.refusals.specs.Tests.{refusal_at}
use Rattle.std.specs.Prelude.{ℕ, cond, ◌||◌, List, [], ltb, eqb, length, take, drop, Result, Ok, Err}
use Rattle.schedule.specs.declared.Profile.{Profile}
use Rattle.refusals.specs.declared.Refusal.{Refusal}
use Rattle.refusals.specs.Refusals.{by_unlisted}
use Rattle.pairs.specs.Pairs.{number_word}
use Rattle.book.specs.Rows.{Contents, refused, accepted}
use Rattle.readers.specs.Reads.{without_opening, read_by, open_reads}

-- The answer: the place of a row's number word, or the refusal.
abbrev pub RowPlace : Type 0
RowPlace = Result ℕ Refusal

-- The call for row k: the place of its number word; or the refusal of the book, then unlisted with the count of rows as place.
unfoldable pub place_in : Contents → ℕ → RowPlace
place_in (refused n p) k = Err (refusal_at n p)
place_in (accepted day) k =
    cond (eqb k 0 || ltb (length day.rows) k) (Err (refusal_at by_unlisted (length day.rows))) (Ok (number_word k))

-- A row's words work out no ends: the call is told its profile alone.
abbrev pub place_call : Profile → List ℕ → ℕ → RowPlace
place_call profile book k = place_in (read_by (without_opening profile) book) k

-- The stretch of the book that holds the four words of a row at its place, empty where the call is refused.
abbrev pub row_words_at : RowPlace → List ℕ → List ℕ
row_words_at (Ok place) book = take 4 (drop place book)
row_words_at (Err refusal) book = []

abbrev pub words_call : Profile → List ℕ → ℕ → List ℕ
words_call profile book k = row_words_at (place_call profile book k) book

-- Opens every definition of this file and of those that it rests on.
unfoldable pub open_places : Unit {0}
unfolding open_reads place_in
open_places = tt
