-- A desk in planning, in small: the released rows left over as a set of bits, and the place in the rows by release from which on rows are
-- ahead. Rows are numbered by rank here. Rests on: Bits, and the schedule's desk, picks and ranks.
use Rattle.std.specs.Prelude.{ℕ, ◌+◌, ◌≤◌, ◌<◌, Bool, true, false, ◌≡◌, length}
use mathlib.Core.List.{List, [], ◌∷◌, Memᴰ}
use Rattle.theory.specs.Jobs.{Job}
use Rattle.schedule.specs.Limits.{most_rows, EndsInTime, latest_raised}
use Rattle.schedule.specs.Rows.{without}
use Rattle.schedule.specs.Offset.{desk_after}
use Rattle.schedule.specs.Ranks.{InRank, ByRelease}
use Rattle.picks.specs.declared.Standing.{Standing}
use Rattle.picks.specs.Bits.{Words}

-- No row stands twice.
abbrev pub Distinct : List ℕ → Type 0
Distinct [] = Unit {0}
Distinct (i ∷ is) = (Memᴰ i is → ⊥) × Distinct is

module _ (n : ℕ) (job : ℕ → Job) (by : ℕ → ℕ) where
  -- The tables that picks go by: the rows 1 to n stand by rank, and `by` has them by release.
  pub record Tables : Type 0 where
    pub few : n ≤ most_rows
    pub in_rank : InRank n job
    pub by_release : ByRelease n job by

  -- The rows `rest` are left over at the minute t. Those of the set are released; those from the place `next` on are the others.
  pub record Stands (t : ℕ) (rest : List ℕ) (next : ℕ) (ready : List ℕ) : Type 0 where
    pub set : ℕ → Bool
    pub words : Words set ready
    pub distinct : Distinct rest
    pub rows : (i : ℕ) → Memᴰ i rest → (1 ≤ i) × (i ≤ n)
    pub on : (i : ℕ) → set i ≡ true → Memᴰ i rest × ((job i).release ≤ t)
    pub off : (i : ℕ) → Memᴰ i rest → set i ≡ false → (k : ℕ) × (next ≤ k) × (k < n) × (by k ≡ i)
    pub ahead : (k : ℕ) → next ≤ k → k < n → Memᴰ (by k) rest × (set (by k) ≡ false)
    pub place : next ≤ n

  -- Every row that is ahead is released after the minute t.
  abbrev pub Late : ℕ → ℕ → Type 0
  Late t next = (k : ℕ) → next ≤ k → k < n → t < (job (by k)).release

  -- A desk with the rows `rest` left over, of n; with them it ends in time, and its worst lateness is no later than that.
  pub record Sits (rest : List ℕ) (s : Standing) : Type 0 where
    pub stands : Stands s.desk.minute rest s.next s.ready
    pub late : Late s.desk.minute s.next
    pub count : s.count + length rest ≡ n
    pub minutes : EndsInTime s.desk.minute (length rest)
    pub lates : s.desk.worst ≤ latest_raised

  -- The desk r is the desk s after the row i of the rows `rest`.
  pub record Taken (rest : List ℕ) (s : Standing) (i : ℕ) (r : Standing) : Type 0 where
    pub sits : Sits (without i rest) r
    pub desk : r.desk ≡ desk_after s.desk (job i)
    pub count : r.count ≡ s.count + 1
