-- Opening a desk with a book: the words that the desk then has, and the whole outcome of the call.
-- Rests on: the readers, the words of a desk, what a call gives (outcomes).
use Rattle.std.specs.Prelude.{ℕ, ◌+◌, true, false, List, [], ◌∷◌, map, ltb, length, replicate, Result, Ok, Err}
use Rattle.schedule.specs.declared.Row.{Row}
use Rattle.schedule.specs.Rows.{Day}
use Rattle.refusals.specs.declared.Refusal.{Refusal}
use Rattle.refusals.specs.Refusals.{by_narrow}
use Rattle.refusals.specs.Tests.{refusal_at}
use Rattle.book.specs.Rows.{refused, accepted}
use Rattle.readers.specs.Reads.{ordering_rule, read_by}
use Rattle.results.specs.Results.{written}
use Rattle.outcomes.specs.Planning.{Outcome, gives}
use Rattle.running.specs.Words.{desk_words, releases, times, dues, pages, put}
use Rattle.desk_open.specs.declared.Opened.{Opened}

-- The answer where a desk is to be opened.
abbrev pub OpenAnswer : Type 0
OpenAnswer = Result Opened Refusal

-- The words of a desk as a day opens it: the count of rows, the free minute and the opening; release, time at the desk, due and pages of
-- each row; all others 0. So no row is done, and there is no worst lateness yet.
unfoldable pub opened_words : (opening : ℕ) → Day → List ℕ
opened_words opening day =
    put (releases + 1) (map (λ (r : Row). r.release) day.rows)
    (put (times + 1) (map (λ (r : Row). opening + r.length) day.rows)
    (put (dues + 1) (map (λ (r : Row). r.due) day.rows)
    (put (pages + 1) (map (λ (r : Row). r.pages) day.rows)
    (put 0 (length day.rows ∷ day.free ∷ 0 ∷ opening ∷ []) (replicate desk_words 0)))))

-- The call, by the ordering rule: the refusals of the opening and the book, then a run that is too short; otherwise the count of rows and
-- the desk's minute, and the words of the desk. Words of a longer run hold what they held.
unfoldable pub open_call : (opening : ℕ) → (book desk : List ℕ) → Outcome OpenAnswer
open_call opening book ws = elim (read_by (ordering_rule opening) book) [
  | refused n p ↦ gives (Err (refusal_at n p)) ws
  | accepted day ↦ elim (ltb (length ws) desk_words) [
    | true ↦ gives (Err (refusal_at by_narrow 0)) ws
    | false ↦ gives (Ok (record { rows = length day.rows; minute = day.free })) (written (opened_words opening day) ws)
  ]
]

-- Opens every definition of this file: name it on an `unfolding` line where all is to be computed.
unfoldable pub open_opens : Unit {0}
unfolding opened_words open_call
open_opens = tt
