-- The list of plans, by its definition: the pairs that some order of the rows attains and no order beats. And by ever smaller bounds.
-- `job` says of each row number what planning sees of the row, t is the desk's minute, `left` the rows. Rests on: Rows, Desk, Picks.
use Prim.Native.Nat.{ℕ, zero, suc, ◌≤◌, ◌<◌, compare, Ordering}
use Rattle.std.specs.Prelude.{Bool, false, cond, ◌&&◌, ◌||◌, ◌⊎◌, leb, ltb, eqb, length, ℤ, pos, ◌≤ℤ◌, ◌<ℤ◌}
use mathlib.Core.List.{List, [], ◌∷◌, map, flat_map}
use Rattle.std.proofs.Math.Option.{Option, none, some}
use Rattle.std.proofs.Math.IntN.{pred_ℤ}
use Rattle.std.specs.Int.Signed.{le_z, lt_z}
use Rattle.theory.specs.Jobs.{Job}
use Rattle.schedule.specs.Rows.{without}
use Rattle.schedule.specs.Desk.{Pair, pair_of}
use Rattle.schedule.specs.Picks.{order_for}

-- Every order of some rows: any of them first, then any order of the others. The number is the count of rows.
unfoldable pub orders_of : ℕ → List ℕ → List (List ℕ)
orders_of zero left = [] ∷ []
orders_of (suc n) left = flat_map (λ i. map (λ order. i ∷ order) (orders_of n (without i left))) left

-- p beats q: both numbers no greater, with one smaller.
unfoldable pub beats : Pair → Pair → Bool
beats p q = leb p.end q.end && le_z p.late q.late && (ltb p.end q.end || lt_z p.late q.late)

-- The same as a statement; that the test says this is `beats_says`, in proofs/Beats.antt.
pub record Beats (p q : Pair) : Type 0 where
  pub ends : p.end ≤ q.end
  pub lates : p.late ≤ℤ q.late
  pub less : (p.end < q.end) ⊎ (p.late <ℤ q.late)

unfoldable pub beaten_by : List Pair → Pair → Bool
beaten_by [] q = false
beaten_by (p ∷ ps) q = beats p q || beaten_by ps q

-- Those of the second list that none of the first beats.
unfoldable pub unbeaten : List Pair → List Pair → List Pair
unbeaten all [] = []
unbeaten all (q ∷ qs) = cond (beaten_by all q) (unbeaten all qs) (q ∷ unbeaten all qs)

-- One of three by a comparison: where it is less, equal or greater.
abbrev pub by_order : {A : Type 0} → Ordering → A → A → A → A
by_order Ordering.lt a b c = a
by_order Ordering.eq a b c = b
by_order Ordering.gt a b c = c

-- By rising end, each once. (Two unbeaten pairs with one end are equal.)
unfoldable pub placed_by_end : Pair → List Pair → List Pair
placed_by_end p [] = p ∷ []
placed_by_end p (q ∷ qs) = by_order (compare p.end q.end) (p ∷ q ∷ qs) (q ∷ qs) (q ∷ placed_by_end p qs)

unfoldable pub by_end : List Pair → List Pair
by_end [] = []
by_end (p ∷ ps) = placed_by_end p (by_end ps)

-- A pair in front of a list by rising end, unless the list begins with its end: the later of two pairs with one end replaces the earlier.
unfoldable pub ahead_of : Pair → List Pair → List Pair
ahead_of p [] = p ∷ []
ahead_of p (q ∷ qs) = cond (eqb p.end q.end) (q ∷ qs) (p ∷ q ∷ qs)

module _ (job : ℕ → Job) (t : ℕ) (left : List ℕ) where
  -- The pairs that the orders of the rows attain.
  unfoldable pub attained : List Pair
  attained = map (pair_of job t) (orders_of (length left) left)

  -- The list: the Pareto front of the attained pairs.
  unfoldable pub plans : List Pair
  plans = by_end (unbeaten attained attained)

  -- The list asked for with ever smaller bounds: y, then one below the lateness just found, until none is kept.
  -- The first number bounds the questions.
  unfoldable pub list_from : ℕ → ℤ → List Pair
  list_from zero y = []
  list_from (suc n) y = elim (order_for job t left y) [
    | none ↦ []
    | some order ↦ ahead_of (pair_of job t order) (list_from n (pred_ℤ (pair_of job t order).late))
  ]

  -- From the largest signed 32-bit number down, with a question for each of these numbers.
  unfoldable pub list_by_bounds : List Pair
  list_by_bounds = list_from 4294967296 (pos 2147483647)

-- The first of the plans, counted from i, that beats the pair.
unfoldable pub first_beating : ℕ → List Pair → Pair → Option ℕ
first_beating i [] q = none
first_beating i (p ∷ ps) q = cond (beats p q) (some i) (first_beating (suc i) ps q)

-- Opens every definition of this file: name it on an `unfolding` line where all is to be computed.
unfoldable pub open_plans : Unit {0}
unfolding flat_map orders_of beats beaten_by unbeaten placed_by_end by_end ahead_of attained plans list_from list_by_bounds first_beating
open_plans = tt
