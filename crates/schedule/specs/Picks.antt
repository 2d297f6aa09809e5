-- The order for a bound: picks, runs and blocks among the rows left over.
-- `job` says of each row number what planning sees of the row, t is the desk's minute, `left` the rows left over. Rests on: Rows, Desk.
use Prim.Native.Nat.{ℕ, zero, suc, ◌+◌, compare, Ordering}
use Rattle.std.specs.Prelude.{Bool, true, false, cond, ◌||◌, List, [], ◌∷◌, ◌++◌, leb, ltb, length, ℤ}
use Rattle.std.proofs.Math.Option.{Option, none, some}
use Rattle.theory.specs.Jobs.{Job, ready, finish}
use Rattle.schedule.specs.Rows.{without, without_all}
use Rattle.schedule.specs.Desk.{end_of, keeps}

-- The lesser is ahead; of equals, as the next comparison says.
abbrev pub ahead : Ordering → Bool → Bool
ahead Ordering.lt next = true
ahead Ordering.eq next = next
ahead Ordering.gt next = false

-- What is done, followed by the rest.
unfoldable pub joined : List ℕ → Option (List ℕ) → Option (List ℕ)
joined done none = none
joined done (some rest) = some (done ++ rest)

-- Release plus length: the earliest end of a job.
abbrev pub earliest_end : Job → ℕ
earliest_end j = j.release + j.length

module _ (job : ℕ → Job) where
  -- Equal picks are decided by rank. Row i outranks row j: the smaller due, then the smaller release plus length, then the smaller row.
  unfoldable pub outranks : ℕ → ℕ → Bool
  outranks i j = ahead (compare (job i).due (job j).due) (ahead (compare (earliest_end (job i)) (earliest_end (job j))) (ltb i j))

  -- Row i goes before row j at minute t: the least ready minute, then rank.
  unfoldable pub before : ℕ → ℕ → ℕ → Bool
  before t i j = ahead (compare (ready (job i) t) (ready (job j) t)) (outranks i j)

  unfoldable pub least_of : ℕ → ℕ → List ℕ → ℕ
  least_of t i [] = i
  least_of t i (j ∷ js) = least_of t (cond (before t j i) j i) js

  -- The first pick among the rows left over, the others, and the second pick: the first among the others. (0, no row, where there is none.)
  unfoldable pub first_pick : ℕ → List ℕ → ℕ
  first_pick t [] = 0
  first_pick t (i ∷ is) = least_of t i is

  unfoldable pub others : ℕ → List ℕ → List ℕ
  others t left = without (first_pick t left) left

  unfoldable pub second_pick : ℕ → List ℕ → ℕ
  second_pick t left = first_pick t (others t left)

  -- The desk is decided: one row is left, or the first pick's due is at most the second pick's.
  unfoldable pub decided : ℕ → List ℕ → Bool
  decided t left = leb (length left) 1 || leb (job (first_pick t left)).due (job (second_pick t left)).due

  -- A run: first picks as long as the desk is decided. The first number bounds the picks; as many as there are rows are enough.
  unfoldable pub run_for : ℕ → ℕ → List ℕ → List ℕ
  run_for zero t left = []
  run_for (suc n) t [] = []
  run_for (suc n) t (i ∷ is) = elim (decided t (i ∷ is)) [
    | true ↦ first_pick t (i ∷ is) ∷ run_for n (finish (job (first_pick t (i ∷ is))) t) (others t (i ∷ is))
    | false ↦ []
  ]

  unfoldable pub run : ℕ → List ℕ → List ℕ
  run t left = run_for (length left) t left

  -- A block: a row followed by the run from there. Block one begins with the first pick, block two with the second.
  unfoldable pub block : ℕ → ℕ → List ℕ → List ℕ
  block i t left = i ∷ run (finish (job i) t) (without i left)

  unfoldable pub block_one : ℕ → List ℕ → List ℕ
  block_one t left = block (first_pick t left) t left

  unfoldable pub block_two : ℕ → List ℕ → List ℕ
  block_two t left = block (second_pick t left) t left

  -- While rows are left: block one if it keeps the bound y, otherwise block two if that does, otherwise the bound is unkept.
  -- The first number bounds the blocks; as many as there are rows are enough.
  unfoldable pub blocks_for : ℕ → ℤ → ℕ → List ℕ → Option (List ℕ)
  blocks_for zero y t [] = some []
  blocks_for zero y t (i ∷ is) = none
  blocks_for (suc n) y t [] = some []
  blocks_for (suc n) y t (i ∷ is) =
      let left = i ∷ is in
      let one = block_one t left in
      let two = block_two t left in
      elim (keeps job y t one) [
        | true ↦ joined one (blocks_for n y (end_of job t one) (without_all one left))
        | false ↦ elim (keeps job y t two) [
          | true ↦ joined two (blocks_for n y (end_of job t two) (without_all two left))
          | false ↦ none
        ]
      ]

  -- The order for the bound y: the run, then blocks. None where the bound is unkept.
  unfoldable pub order_for : ℕ → List ℕ → ℤ → Option (List ℕ)
  order_for t left y =
      let first = run t left in
      elim (keeps job y t first) [
        | true ↦ joined first (blocks_for (length left) y (end_of job t first) (without_all first left))
        | false ↦ none
      ]

-- Opens every definition of this file: name it on an `unfolding` line where all is to be computed.
unfoldable pub open_picks : Unit {0}
unfolding ready joined outranks before least_of first_pick others second_pick decided run_for run block block_one block_two blocks_for order_for
open_picks = tt
