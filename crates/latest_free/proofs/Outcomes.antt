-- What the outcomes of the call are, case by case. Assumes nothing.
use Prim.Native.Nat.{ℕ, ◌≤◌, ◌<◌}
use mathlib.Core.Path.{◌≡◌}
use mathlib.Core.List.{List}
use lib.ListN.{length}
use lib.IntN.{ℤ}
use borrow.Author.Tests.{lt-ltb, le-ltb}
use Rattle.std.specs.Prelude.{Err}
use Rattle.theory.specs.Jobs.{Job}
use Rattle.schedule.specs.Rows.{Day, jobs, row_numbers}
use Rattle.refusals.specs.Tests.{refusal_at}
use Rattle.book.specs.Rows.{refused, accepted}
use Rattle.readers.specs.Reads.{ordering_rule, read_by}
use Rattle.outcomes.specs.Planning.{gives}
use Rattle.how_late.specs.Latest.{latest_order}
use Rattle.latest_free.specs.Calls.{from_outcome, latest_outcome, latest_call}

module _ (job : ℕ → Job) (left : List ℕ) (end late : ℤ) (b : List ℕ) where
  pub latest_narrow : length b < length left → latest_outcome job left end late b ≡ gives (Err (refusal_at 9 0)) b
  unfolding latest_outcome
  latest_narrow h = rw (lt-ltb (length b) (length left) h, latest_outcome)

  pub latest_is : length left ≤ length b → latest_outcome job left end late b ≡ from_outcome job (latest_order job left end late) b
  unfolding latest_outcome
  latest_is h = rw (le-ltb (length b) (length left) h, latest_outcome)

module _ (opening : ℕ) (book : List ℕ) (end late : ℤ) (b : List ℕ) where
  pub call_refused : (n p : ℕ) → read_by (ordering_rule opening) book ≡ refused n p →
      latest_call opening book end late b ≡ gives (Err (refusal_at n p)) b
  unfolding latest_call
  call_refused n p e = rw (e, latest_call)

  pub call_of : (day : Day) → read_by (ordering_rule opening) book ≡ accepted day →
      latest_call opening book end late b ≡ latest_outcome (jobs opening day) (row_numbers day) end late b
  unfolding latest_call
  call_of day e = rw (e, latest_call)
