-- `add_opening` meets its contract: the first rows have their times, and the others their lengths.
-- Assumes nothing.
use Prim.Native.Nat.{ℕ, ◌+◌, ◌≤◌, ◌<◌}
use mathlib.Core.Path.{◌≡◌}
use Rattle.schedule.specs.Columns.{at}
use Rattle.readers.proofs.add_opening.Given as goal

abbrev pub invariant-loop-time : goal.invariant-loop-time
invariant-loop-time l = record {
  added : (k : ℕ) → k < l.time-index → at l.time-items k ≡ l.opening + at l.initial.time-items k;
  past : (k : ℕ) → l.time-index ≤ k → at l.time-items k ≡ at l.initial.time-items k;
}
