-- How late the desk can open: what is promised of the call, for every opening, book, wanted end, wanted lateness and buffer. The proof is
-- `latest_free_holds`, in proofs/Promise.antt. That the function does what is said here of its call is its contract (latest_free/src).
-- Rests on: the latest free minute (how_late), the table of a book's refusals and what it is to take a book (promises).
use Rattle.std.specs.Prelude.{ℕ, suc, ◌≤◌, ◌<◌, ◌≡◌, List, ◌↔◌, ◌⊎◌, length, ℤ, pos, ◌≤ℤ◌, ◌<ℤ◌}
use Rattle.std.proofs.Math.Option.{some}
use Rattle.theory.specs.Jobs.{Job}
use Rattle.schedule.specs.Limits.{latest_minute}
use Rattle.schedule.specs.Rows.{Day, jobs, row_numbers}
use Rattle.schedule.specs.Desk.{OrderOf, end_of, pair_of}
use Rattle.schedule.specs.Picks.{order_for}
use Rattle.refusals.specs.Refusals.{by_narrow, by_unkept, by_unreachable}
use Rattle.grammar.specs.FreeWord.{book_from}
use Rattle.readers.specs.Reads.{ordering_rule}
use Rattle.results.specs.Results.{written}
use Rattle.outcomes.specs.Planning.{Outcome, gives}
use Rattle.calls.specs.Answers.{Said, said_no}
use Rattle.promises.specs.Vocabulary.{told, bound, said_pair, Refuses, Takes}
use Rattle.promises.specs.Table.{Turned}
use Rattle.promises.specs.Promise.{Lent}
use Rattle.how_late.specs.Latest.{KeepsBoth, Allowed, LatestFree}
use Rattle.latest_free.specs.Answers.{said_from, said_latest}
use Rattle.latest_free.specs.Calls.{latest_call}

-- The call in the numbers of the table, and the buffer after it.
abbrev pub latest : (opening : ℕ) (book : List ℕ) (end late : ℤ) (b : List ℕ) → Outcome Said
latest opening book end late b = told said_latest (latest_call opening book end late b)

-- # What is answered
-- `end` and `late` are wanted, b is the buffer. An order keeps both from a minute if it is one of the rows, ends by the wanted end, and has
-- a worst lateness of at most the wanted one (`KeepsBoth`); a minute allows both if some order does (`Allowed`). The day's own free minute
-- stands in none of this.
module _ (opening : ℕ) (day : Day) (end late : ℤ) where
  abbrev pub seen : ℕ → Job
  seen = jobs opening day

  -- The minute t and the order: of the minutes from 0 to 10,000,000 exactly those up to t allow both, and the order is the one for the
  -- wanted lateness from t. It keeps both, and ends no later than any order of the rows that keeps the wanted lateness from t.
  pub record LatestWith (t : ℕ) (order : List ℕ) : Type 0 where
    pub minute : LatestFree seen (row_numbers day) end late t
    pub its_order : order_for seen t (row_numbers day) late ≡ some order
    pub keeps : KeepsBoth seen (row_numbers day) end late t order
    pub soonest : (other : List ℕ) → OrderOf (row_numbers day) other → (pair_of seen t other).late ≤ℤ late →
        end_of seen t order ≤ end_of seen t other

  -- Either there is such a minute: it is told, with the order's own pair, and the order is written. Or the call is refused as unreachable,
  -- and not even minute 0 allows both.
  pub data Answered (b : List ℕ) (o : Outcome Said) : Type 0 where
    from : (t : ℕ) (order : List ℕ) → LatestWith t order → o ≡ gives (said_from t (pair_of seen t order)) (written order b) → Answered b o
    unreachable : ¬ Allowed seen (row_numbers day) end late 0 → o ≡ gives (said_no by_unreachable 0) b → Answered b o

  -- How the call is refused by conditions of its own: no word for each row; then, not even minute 0 allows both.
  pub data LatestTurned (b : List ℕ) : (n p : ℕ) → Type 0 where
    narrow : length b < length day.rows → LatestTurned b by_narrow 0
    unreachable : length day.rows ≤ length b → ¬ Allowed seen (row_numbers day) end late 0 → LatestTurned b by_unreachable 0

-- What the call for the bound says is too late for the wanted end: no order keeps the bound, or the one that ends soonest ends past it.
abbrev pub Late : (end : ℤ) → Said → Type 0
Late end said = Refuses said by_unkept 0 ⊎ (end <ℤ pos said.end)

-- # What is promised
pub record LatestPromise : Type 0 where
  -- A refused call returns one of these numbers, and the buffer holds what it held; no call makes it longer or shorter.
  pub memory : (opening : ℕ) (book : List ℕ) (end late : ℤ) (b : List ℕ) →
      Lent (λ n. ((1 ≤ n) × (n ≤ 9)) ⊎ (n ≡ by_unreachable)) b (latest opening book end late b)
  -- It is refused n at p exactly if the condition holds and no earlier one does: the opening, the book, then its own.
  pub refused : (opening : ℕ) (book : List ℕ) (end late : ℤ) (b : List ℕ) (n p : ℕ) →
      Refuses (latest opening book end late b).answer n p ↔
      Turned (ordering_rule opening) book (λ day. LatestTurned opening day end late b) n p
  -- Of a book that it takes, with a word for each row, it is answered so.
  pub answered : (opening : ℕ) (book : List ℕ) (end late : ℤ) (b : List ℕ) (day : Day) → Takes (ordering_rule opening) book day →
      length day.rows ≤ length b → Answered opening day end late b (latest opening book end late b)
  -- The book's own free word is read and not used: books that differ in it alone, in range in both, get the same answer and words.
  pub free_word : (opening free other : ℕ) → free ≤ latest_minute → other ≤ latest_minute → (rest : List ℕ) (end late : ℤ) (b : List ℕ) →
      latest opening (book_from free rest) end late b ≡ latest opening (book_from other rest) end late b
  -- Where it is not refused, the order and the pair are those that the call for the bound gives of the book from the minute told.
  pub as_bound : (opening free : ℕ) (rest : List ℕ) (end late : ℤ) (b : List ℕ) →
      let o = latest opening (book_from free rest) end late b in
      o.answer.number ≡ 0 →
      bound (ordering_rule opening) (book_from o.answer.minute rest) late b ≡
      gives (said_pair (record { end = o.answer.end; late = o.answer.late })) o.buffer
  -- And asked of the book from the next minute, if that is in range, it is refused as unkept or ends past the wanted end.
  pub next_minute : (opening free : ℕ) (rest : List ℕ) (end late : ℤ) (b : List ℕ) →
      let o = latest opening (book_from free rest) end late b in
      o.answer.number ≡ 0 → o.answer.minute < latest_minute →
      Late end (bound (ordering_rule opening) (book_from (suc o.answer.minute) rest) late b).answer
