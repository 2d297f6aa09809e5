-- The whole outcome of each offered call: from what it is told and lent to its answer and the buffer's contents at exit.
-- The refusals of the opening and the book come first. Rests on: the readers, Planned, the outcomes of what is planned.
use Rattle.std.specs.Prelude.{ℕ, List, ℤ, Err}
use Rattle.refusals.specs.Tests.{refusal_at}
use Rattle.book.specs.Rows.{refused, accepted}
use Rattle.readers.specs.declared.Terms.{Terms}
use Rattle.readers.specs.Reads.{read_by}
use Rattle.outcomes.specs.Outcomes.{list_outcome, order_outcome, plan_outcome, verdict_outcome, open_outcomes, ListAnswer, OrderAnswer}
use Rattle.outcomes.specs.Planning.{Outcome, gives}
use Rattle.outcomes.specs.Outcomes.{VerdictAnswer}
use Rattle.calls.specs.Planned.{planned}

-- The offered calls, by what they are told: the refusal of the opening or the book, or what the day that it gives comes to.
module _ (terms : Terms) (book : List ℕ) where
  unfoldable pub list_call : (buffer : List ℕ) → Outcome ListAnswer
  list_call b = elim (read_by terms book) [
    | refused n p ↦ gives (Err (refusal_at n p)) b
    | accepted day ↦ list_outcome (planned terms day) b
  ]

  unfoldable pub bound_call : ℤ → (buffer : List ℕ) → Outcome OrderAnswer
  bound_call y b = elim (read_by terms book) [
    | refused n p ↦ gives (Err (refusal_at n p)) b
    | accepted day ↦ order_outcome (planned terms day) y b
  ]

  unfoldable pub plan_call : ℕ → (buffer : List ℕ) → Outcome OrderAnswer
  plan_call k b = elim (read_by terms book) [
    | refused n p ↦ gives (Err (refusal_at n p)) b
    | accepted day ↦ plan_outcome (planned terms day) k b
  ]

  unfoldable pub verdict_call : (posting : List ℕ) → VerdictAnswer
  verdict_call posting = elim (read_by terms book) [
    | refused n p ↦ Err (refusal_at n p)
    | accepted day ↦ verdict_outcome (planned terms day) posting
  ]

-- Opens every definition of this file: name it on an `unfolding` line where all is to be computed.
unfoldable pub open_calls : Unit {0}
unfolding open_outcomes list_call bound_call plan_call verdict_call
open_calls = tt
