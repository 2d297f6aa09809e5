-- When a book is refused by the rule of the profile, by the numbers of its rows. The proof is `books_settled`, in proofs/Settled.antt.
-- Rests on: Rules, Reads, the pairs' Clashes.
use Rattle.std.specs.Prelude.{ℕ, ◌≡◌, List}
use Rattle.schedule.specs.declared.Profile.{Profile}
use Rattle.schedule.specs.Rows.{Day}
use Rattle.pairs.specs.Pairs.{number_word}
use Rattle.pairs.specs.Clashes.{NoneClash, Earliest}
use Rattle.book.specs.Rows.{refused, accepted}
use Rattle.book.specs.Book.{read_words}
use Rattle.readers.specs.Rules.{clash_by, number_by}
use Rattle.readers.specs.Reads.{read_for}

-- How a book comes out that passed tests 1 to 7 and gave this day: either no two rows clash (disagree, or cross), and it is accepted; or
-- there is an earliest row k that clashes with any row above it, and the book is refused with the profile's number (8, or 13) at the
-- number word of k.
pub data Settled (profile : Profile) (book : List ℕ) (day : Day) : Type 0 where
  unclashing : NoneClash (clash_by profile) day.rows → read_for profile book ≡ accepted day → Settled profile book day
  clashing : (j k : ℕ) → Earliest (clash_by profile) day.rows j k →
      read_for profile book ≡ refused (number_by profile) (number_word k) → Settled profile book day

abbrev pub BooksSettled : Type 0
BooksSettled = (profile : Profile) (book : List ℕ) (day : Day) → read_words book ≡ accepted day → Settled profile book day
