-- The whole outcome of the call for the latest free minute: from what it is told and lent to its answer and the buffer's contents at exit.
-- The refusals of the opening and the book come first, then 9, then 17. Rests on: the readers, the latest free minute.
use Rattle.std.specs.Prelude.{ℕ, true, false, List, ltb, length, ℤ, Result, Ok, Err}
use Rattle.std.proofs.Math.Option.{Option, none, some}
use Rattle.theory.specs.Jobs.{Job}
use Rattle.schedule.specs.Rows.{jobs, row_numbers}
use Rattle.schedule.specs.Desk.{pair_of}
use Rattle.refusals.specs.Refusals.{by_narrow, by_unreachable}
use Rattle.refusals.specs.declared.Refusal.{Refusal}
use Rattle.refusals.specs.Tests.{refusal_at}
use Rattle.book.specs.Rows.{refused, accepted}
use Rattle.readers.specs.Reads.{ordering_rule, read_by}
use Rattle.results.specs.Results.{written}
use Rattle.outcomes.specs.Planning.{Outcome, gives}
use Rattle.how_late.specs.Latest.{OrderFrom, latest_order}
use Rattle.latest_free.specs.declared.LatestStart.{LatestStart}

-- What is answered: the latest free minute with the pair of its order, or the refusal.
abbrev pub LatestAnswer : Type 0
LatestAnswer = Result LatestStart Refusal

-- What is given of a minute with an order: the minute, the pair that the order comes to from there, and the order; or that there is none.
unfoldable pub from_outcome : (ℕ → Job) → Option OrderFrom → (buffer : List ℕ) → Outcome LatestAnswer
from_outcome job none b = gives (Err (refusal_at by_unreachable 0)) b
from_outcome job (some s) b =
    let pair = pair_of job s.minute s.order in
    gives (Ok (record { minute = s.minute; end = pair.end; late = pair.late })) (written s.order b)

-- One word for each row; then the latest free minute with its order.
unfoldable pub latest_outcome : (ℕ → Job) → (left : List ℕ) → (end late : ℤ) → (buffer : List ℕ) → Outcome LatestAnswer
latest_outcome job left end late b = elim (ltb (length b) (length left)) [
  | true ↦ gives (Err (refusal_at by_narrow 0)) b
  | false ↦ from_outcome job (latest_order job left end late) b
]

-- The offered call: the refusal of the opening or the book, or what the rows of its day come to. (Its free minute is not used.)
unfoldable pub latest_call : (opening : ℕ) → (book : List ℕ) → (end late : ℤ) → (buffer : List ℕ) → Outcome LatestAnswer
latest_call opening book end late b = elim (read_by (ordering_rule opening) book) [
  | refused n p ↦ gives (Err (refusal_at n p)) b
  | accepted day ↦ latest_outcome (jobs opening day) (row_numbers day) end late b
]
