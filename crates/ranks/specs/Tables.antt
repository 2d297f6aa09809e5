-- The working tables of a call: the rows by rank, their columns in that order, and the ranks by release.
-- Rests on: the schedule's columns and ranks.
use Rattle.std.specs.Prelude.{ℕ, ◌≤◌, List, ◌≡◌}
use Rattle.schedule.specs.Columns.{at, columns}
use Rattle.schedule.specs.Ranks.{ByRank, ByRelease}

-- The column `ranked` holds at each rank what the row of that rank has in the column `column`; what bounds that bounds all of it.
pub record Ranked (n : ℕ) (rows column ranked : List ℕ) : Type 0 where
  pub each : (k : ℕ) → 1 ≤ k → k ≤ n → at ranked k ≡ at column (at rows k)
  pub within : (m : ℕ) → ((k : ℕ) → at column k ≤ m) → (k : ℕ) → at ranked k ≤ m

-- The tables of the rows 1 to n in the columns `release`, `minutes` and `due`.
pub record Tabled (n : ℕ) (release minutes due rows releases lengths dues by : List ℕ) : Type 0 where
  pub by_rank : ByRank n (columns release minutes due) (at rows)
  pub releases_ranked : Ranked n rows release releases
  pub lengths_ranked : Ranked n rows minutes lengths
  pub dues_ranked : Ranked n rows due dues
  pub by_release : (any-minutes any-due : List ℕ) → ByRelease n (columns releases any-minutes any-due) (at by)
