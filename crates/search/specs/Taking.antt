-- What runs and blocks make of a desk in planning: the desk, the rows left over and the order so far, within a bound.
-- Rows are numbered by rank. Rests on: the schedule's desk, picks and blocks, and the desk in planning.
use Rattle.std.specs.Prelude.{ℕ, ◌+◌, ◌≤◌, ◌<◌, true, false, ◌≡◌, List, [], ◌∷◌, ◌++◌, ◌⊎◌, length, take}
use Rattle.theory.specs.Jobs.{Job}
use Rattle.schedule.specs.Limits.{most_rows}
use Rattle.schedule.specs.declared.Desk.{Desk}
use Rattle.schedule.specs.Rows.{without_all}
use Rattle.schedule.specs.Picks.{decided, block_one, block_two}
use Rattle.schedule.specs.Offset.{desk_after}
use Rattle.picks.specs.declared.Standing.{Standing}
use Rattle.picks.specs.Standing.{Sits}
use Rattle.search.specs.declared.Block.{Block}

module _ (job : ℕ → Job) where
  -- The desk after rows one after another.
  unfoldable pub desk_through : Desk → List ℕ → Desk
  desk_through d [] = d
  desk_through d (i ∷ is) = desk_through (desk_after d (job i)) is

module _ (n : ℕ) (job : ℕ → Job) (by : ℕ → ℕ) where
  -- No row is left, or the desk is not decided.
  abbrev pub Stuck : ℕ → List ℕ → Type 0
  Stuck t rest = (rest ≡ []) ⊎ (decided job t rest ≡ false)

  -- The desk r is the desk s after the rows `taken` of the rows `rest`, and a run ends there.
  pub record After (rest : List ℕ) (s : Standing) (taken : List ℕ) (r : Standing) : Type 0 where
    pub sits : Sits n job by (without_all taken rest) r
    pub desk : r.desk ≡ desk_through job s.desk taken
    pub count : r.count ≡ s.count + length taken
    pub stuck : Stuck r.desk.minute (without_all taken rest)

  -- The rows `taken` are taken as long as the bound is kept: the desk r, and the order so far as it was and as it is after.
  pub record Ran (bound : ℕ) (rest : List ℕ) (s : Standing) (taken order : List ℕ) (r : Standing) (after : List ℕ) : Type 0 where
    pub kept : r.desk.worst ≤ bound → After rest s taken r × (take r.count after ≡ take s.count order ++ taken)
    pub over : bound < r.desk.worst → bound < (desk_through job s.desk taken).worst
    pub before : take s.count after ≡ take s.count order
    pub counts : (s.count ≤ r.count) × (r.count ≤ n)
    pub places : length after ≡ most_rows

  -- The next block: block one where the bound is kept with it, otherwise block two.
  pub record Stepped (bound : ℕ) (rest : List ℕ) (s : Standing) (order : List ℕ) (r : Block) (after : List ℕ) : Type 0 where
    pub one : r.second ≡ false → (r.after.desk.worst ≤ bound) ×
        Ran bound rest s (block_one job s.desk.minute rest) order r.after after
    pub two : r.second ≡ true → (bound < (desk_through job s.desk (block_one job s.desk.minute rest)).worst) ×
        Ran bound rest s (block_two job s.desk.minute rest) order r.after after
    pub counts : (s.count < r.after.count) × (r.after.count ≤ n)
    pub places : length after ≡ most_rows
