-- What the code's arrays say: the number at a place, the job of each row number, and the limits on it.
-- Rests on: the jobs of the theory.
use Rattle.std.specs.Prelude.{ℕ, ◌≤◌, List, get_or}
use Rattle.theory.specs.Jobs.{Job}
use Rattle.schedule.specs.Limits.{latest_minute, longest_time, latest_due}

-- The number at a place; 0 past the last.
abbrev pub at : List ℕ → ℕ → ℕ
at xs k = get_or xs k 0

-- The job of a row number, from the columns of releases, lengths and dues. Place 0 is for no row.
abbrev pub columns : List ℕ → List ℕ → List ℕ → ℕ → Job
columns release length due i = record { release = get_or release i 0; length = get_or length i 0; due = get_or due i 0 }

-- The limits of the search on what planning sees of a row.
pub record Limits (job : ℕ → Job) : Type 0 where
  pub releases : (i : ℕ) → (job i).release ≤ latest_minute
  pub lengths : (i : ℕ) → (job i).length ≤ longest_time
  pub dues : (i : ℕ) → (job i).due ≤ latest_due
