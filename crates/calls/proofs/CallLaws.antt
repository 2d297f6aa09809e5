-- What the calls give of a book that is refused, and of one that is accepted.
-- Assumes nothing.
use Prim.Native.Nat.{ℕ}
use mathlib.Core.Path.{◌≡◌}
use mathlib.Core.List.{List}
use lib.IntN.{ℤ}
use Rattle.std.specs.Prelude.{Err}
use Rattle.schedule.specs.Rows.{Day}
use Rattle.refusals.specs.Tests.{refusal_at}
use Rattle.book.specs.Rows.{refused, accepted}
use Rattle.readers.specs.declared.Terms.{Terms}
use Rattle.readers.specs.Reads.{read_by}
use Rattle.outcomes.specs.Outcomes.{list_outcome, order_outcome, plan_outcome, verdict_outcome}
use Rattle.outcomes.specs.Planning.{gives}
use Rattle.calls.specs.Planned.{planned}
use Rattle.calls.specs.Calls.{list_call, bound_call, plan_call, verdict_call}

-- A refused book turns every call down.
module _ (terms : Terms) (book : List ℕ) (n p : ℕ) (reads : read_by terms book ≡ refused n p) where
  pub list_refused : (b : List ℕ) → list_call terms book b ≡ gives (Err (refusal_at n p)) b
  unfolding list_call
  list_refused b = rw (reads, list_call)

  pub bound_refused : (y : ℤ) (b : List ℕ) → bound_call terms book y b ≡ gives (Err (refusal_at n p)) b
  unfolding bound_call
  bound_refused y b = rw (reads, bound_call)

  pub plan_refused : (k : ℕ) (b : List ℕ) → plan_call terms book k b ≡ gives (Err (refusal_at n p)) b
  unfolding plan_call
  plan_refused k b = rw (reads, plan_call)

  pub verdict_refused : (posting : List ℕ) → verdict_call terms book posting ≡ Err (refusal_at n p)
  unfolding verdict_call
  verdict_refused posting = rw (reads, verdict_call)

-- An accepted book is planned.
module _ (terms : Terms) (book : List ℕ) (day : Day) (reads : read_by terms book ≡ accepted day) where
  pub list_of : (b : List ℕ) → list_call terms book b ≡ list_outcome (planned terms day) b
  unfolding list_call
  list_of b = rw (reads, list_call)

  pub bound_of : (y : ℤ) (b : List ℕ) → bound_call terms book y b ≡ order_outcome (planned terms day) y b
  unfolding bound_call
  bound_of y b = rw (reads, bound_call)

  pub plan_of : (k : ℕ) (b : List ℕ) → plan_call terms book k b ≡ plan_outcome (planned terms day) k b
  unfolding plan_call
  plan_of k b = rw (reads, plan_call)

  pub verdict_of : (posting : List ℕ) → verdict_call terms book posting ≡ verdict_outcome (planned terms day) posting
  unfolding verdict_call
  verdict_of posting = rw (reads, verdict_call)
