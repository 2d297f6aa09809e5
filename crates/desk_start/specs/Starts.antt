-- The whole outcome of a start on a lent desk: from the desk's words to the answer and the words at exit. A run that holds no desk is
-- refused 3 at 0. Rests on: the running desk and its words, what a call gives (outcomes).
use Rattle.std.specs.Prelude.{ℕ, true, false, List, Result, Ok, Err}
use Rattle.schedule.specs.Offset.{raised}
use Rattle.refusals.specs.declared.Refusal.{Refusal}
use Rattle.refusals.specs.Refusals.{by_range}
use Rattle.refusals.specs.Tests.{refusal_at}
use Rattle.outcomes.specs.Planning.{Outcome, gives}
use Rattle.running.specs.Running.{Running, start_tests, end_at, worst_at, open_running}
use Rattle.running.specs.Words.{running, is_desk, moved_words, open_words}
use Rattle.desk_start.specs.declared.Stand.{Stand}

-- The answer to a start: where the desk stands after it.
abbrev pub StartAnswer : Type 0
StartAnswer = Result Stand Refusal

-- A start on the words of a running desk: the desk's new minute and the worst lateness so far, and the words after it.
unfoldable pub start_outcome : List ℕ → Running → (i m : ℕ) → Outcome StartAnswer
start_outcome ws d i m = elim (start_tests d i m) [
  | Err refusal ↦ gives (Err refusal) ws
  | Ok _ ↦ gives (Ok (record { minute = end_at d i m; late = worst_at d i m })) (moved_words ws i (end_at d i m) (raised (worst_at d i m)))
]

unfoldable pub start_call : (desk : List ℕ) → (i m : ℕ) → Outcome StartAnswer
start_call ws i m = elim (is_desk ws) [
  | false ↦ gives (Err (refusal_at by_range 0)) ws
  | true ↦ start_outcome ws (running ws) i m
]

-- Opens every definition of this file and of those that it rests on: name it on an `unfolding` line where all is to be computed.
unfoldable pub open_starts : Unit {0}
unfolding open_running open_words start_outcome start_call
open_starts = tt
