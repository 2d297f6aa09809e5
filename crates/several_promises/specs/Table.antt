-- The table of refusals of the call for several desks: under which condition it is refused, with the place and the desk. What is lent
-- amiss comes first, then the books desk by desk, then 9, then 16. The proof is in proofs/Refused.antt.
-- Rests on: what is lent (several_lent), the table of a book's refusals (promises), choices of orders (overtime).
use Rattle.std.specs.Prelude.{ℕ, ◌+◌, ◌≤◌, ◌<◌, ◌≡◌, List, length, take, drop, get_or}
use Rattle.schedule.specs.declared.Profile.TheVariants.{Ordering}
use Rattle.schedule.specs.Rows.{Day}
use Rattle.schedule.specs.Columns.{at}
use Rattle.refusals.specs.Refusals.{by_range, by_narrow, by_overtime}
use Rattle.readers.specs.Reads.{ordering_rule}
use Rattle.outcomes.specs.Planning.{Outcome, gives}
use Rattle.promises.specs.Vocabulary.{Refuses, Takes}
use Rattle.promises.specs.Table.{BookRefused}
use Rattle.overtime.specs.Best.{KeepLimit}
use Rattle.several_lent.specs.Lent.{total, LentRight}
use Rattle.several_books.specs.Days.{rows_of, no_day}
use Rattle.several.specs.Answers.{SaidOfDesks, said_several}
use Rattle.several.specs.Calls.{desks_of, several_call}

-- The call in the numbers of the table, and the buffer after it.
abbrev pub several : (opening : ℕ) (books lengths closings : List ℕ) (limit : ℕ) (b : List ℕ) → Outcome SaidOfDesks
several opening books lengths closings limit b =
    let o = several_call opening books lengths closings limit b in
    gives (said_several o.answer) o.buffer

-- The call is refused n at p, at the desk d; 0 where it concerns no single desk.
abbrev pub RefusesAt : SaidOfDesks → (n p d : ℕ) → Type 0
RefusesAt s n p d = Refuses s.said n p × (s.desk ≡ d)

-- The book of desk e, counted from 0: as many words as its length says, after those of the desks before it.
abbrev pub book_at : (lengths books : List ℕ) → ℕ → List ℕ
book_at lengths books e = take (at lengths e) (drop (total (take e lengths)) books)

-- The books of all desks are accepted, and give these days.
pub record TakesAll (opening : ℕ) (books lengths : List ℕ) (ds : List Day) : Type 0 where
  pub many : length ds ≡ length lengths
  pub each : (e : ℕ) → e < length lengths → Takes (ordering_rule opening) (book_at lengths books e) (get_or ds e no_day)

module _ (opening : ℕ) (books lengths closings : List ℕ) (limit : ℕ) (b : List ℕ) where
  abbrev pub Right : Type 0
  Right = LentRight opening (length books) lengths closings limit

  pub data SeveralTurned : (n p d : ℕ) → Type 0 where
    -- The opening, the desks' count, a closing minute or the limit outside, unequal counts, lengths that do not add up to the run.
    lent : ¬ Right → SeveralTurned by_range 0 0
    -- The book of desk e + 1, by its number and place as a book of its own; the books before it are accepted.
    book : Right → (n p e : ℕ) → e < length lengths →
        ((i : ℕ) → i < e → (day : Day) × Takes (ordering_rule opening) (book_at lengths books i) day) →
        BookRefused Ordering (book_at lengths books e) n p → SeveralTurned n p (e + 1)
    -- The buffer has no word for each row of all books.
    narrow : Right → (ds : List Day) → TakesAll opening books lengths ds → length b < rows_of ds → SeveralTurned by_narrow 0 0
    -- No orders of the desks keep the limit.
    overtime : Right → (ds : List Day) → TakesAll opening books lengths ds → rows_of ds ≤ length b →
        ((orders : List (List ℕ)) → ¬ KeepLimit limit closings (desks_of opening ds) orders) → SeveralTurned by_overtime 0 0
