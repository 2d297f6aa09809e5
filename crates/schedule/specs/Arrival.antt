-- First come, first due: rows of which no two cross, and their one plan, by release, then due, then row. `job` says of each row number
-- what planning sees of the row, t is the desk's minute, `left` the rows. Rests on: Desk, Picks, Plans, Cover. The proof is
-- `arrival_promised`, in proofs/Arrival.antt.
use Prim.Native.Nat.{ℕ, compare, ◌≤◌, ◌<◌}
use Rattle.std.specs.Prelude.{Bool, cond, ◌≡◌, ltb, length, ℤ, ◌≤ℤ◌}
use mathlib.Core.List.{List, [], ◌∷◌, Memᴰ}
use Rattle.std.proofs.Math.Option.{Option, none, some}
use Rattle.std.specs.Int.Signed.{le_z}
use Rattle.theory.specs.Jobs.{Job}
use Rattle.schedule.specs.Desk.{OrderOf, pair_of, end_of}
use Rattle.schedule.specs.Picks.{ahead}
use Rattle.schedule.specs.Plans.{plans}
use Rattle.schedule.specs.Cover.{PlansPromise}

-- No two rows cross: none has both a smaller release and a larger due than another.
abbrev pub Uncrossed : (ℕ → Job) → List ℕ → Type 0
Uncrossed job left = (i j : ℕ) → Memᴰ i left → Memᴰ j left → (job i).release < (job j).release → (job i).due ≤ (job j).due

module _ (job : ℕ → Job) where
  -- Row i comes before row j: the smaller release, then the smaller due, then the smaller row.
  unfoldable pub comes_before : ℕ → ℕ → Bool
  comes_before i j = ahead (compare (job i).release (job j).release) (ahead (compare (job i).due (job j).due) (ltb i j))

  -- A row in its place among rows by arrival; and rows by arrival.
  unfoldable pub placed_by_arrival : ℕ → List ℕ → List ℕ
  placed_by_arrival i [] = i ∷ []
  placed_by_arrival i (j ∷ js) = cond (comes_before i j) (i ∷ j ∷ js) (j ∷ placed_by_arrival i js)

  unfoldable pub by_arrival : List ℕ → List ℕ
  by_arrival [] = []
  by_arrival (i ∷ is) = placed_by_arrival i (by_arrival is)

  -- Beside the sort, what it is to be sorted. Row i arrives no later than row j: it has the smaller release; or the same release and the
  -- smaller due; or the same of both, and its number is no greater.
  pub data ArrivesFirst (i j : ℕ) : Type 0 where
    by_release : (job i).release < (job j).release → ArrivesFirst i j
    by_due : (job i).release ≡ (job j).release → (job i).due < (job j).due → ArrivesFirst i j
    by_row : (job i).release ≡ (job j).release → (job i).due ≡ (job j).due → i ≤ j → ArrivesFirst i j

  -- Each row of the order arrives no later than all after it.
  abbrev pub InArrival : List ℕ → Type 0
  InArrival [] = Unit {0}
  InArrival (i ∷ is) = ((j : ℕ) → Memᴰ j is → ArrivesFirst i j) × InArrival is

  -- The order for the bound y: that order, if its worst lateness is at most y; otherwise none.
  unfoldable pub arrival_for : ℕ → List ℕ → ℤ → Option (List ℕ)
  arrival_for t left y = cond (le_z (pair_of job t (by_arrival left)).late y) (some (by_arrival left)) none

module _ (job : ℕ → Job) (t : ℕ) (left : List ℕ) where
  pub record ArrivalPromise : Type 0 where
    -- The order by arrival has every row once ..
    pub whole : OrderOf left (by_arrival job left)
    -- .. by release, then due, then row ..
    pub sorted : InArrival job (by_arrival job left)
    -- .. and ends no later and is no later at worst than every order of the rows.
    pub least : (order : List ℕ) → OrderOf left order →
        (end_of job t (by_arrival job left) ≤ end_of job t order) × ((pair_of job t (by_arrival job left)).late ≤ℤ (pair_of job t order).late)
    -- So the list, the pairs that some order attains and none beats, is its pair alone ..
    pub one_plan : plans job t left ≡ pair_of job t (by_arrival job left) ∷ []
    -- .. and property 3 holds with it as the order for each bound that it keeps.
    pub promise : PlansPromise job t left (arrival_for job t left)

-- So it is for rows that do not cross, from any minute on. (Of no rows at all there is one plan, of the empty order: so at least one row.)
abbrev pub ArrivalPromised : Type 0
ArrivalPromised = (job : ℕ → Job) (t : ℕ) (left : List ℕ) → Uncrossed job left → 0 < length left → ArrivalPromise job t left

-- Opens every definition of this file: name it on an `unfolding` line where all is to be computed.
unfoldable pub open_arrival : Unit {0}
unfolding comes_before placed_by_arrival by_arrival arrival_for
open_arrival = tt
