-- The desk: ends, signed lateness, idle minutes; what an order comes to, and when it keeps a bound.
-- `job` says of each row number what planning sees of the row, t is the desk's minute. Rests on: the jobs of the theory.
use Rattle.std.specs.Prelude.{ℕ, ◌+◌, ◌-◌, Bool, true, cond, ◌&&◌, ◌≡◌, ℤ, pos}
use mathlib.Core.List.{List, [], ◌∷◌, Permᴰ}
use Rattle.std.proofs.Math.IntN.{sub_ℕ}
use Rattle.std.specs.Int.Signed.{le_z}
use Rattle.theory.specs.Jobs.{Job, finish}

-- A pair of an end and a worst lateness.
pub record Pair : Type 0 where
  pub end : ℕ
  pub late : ℤ

-- The larger of two signed numbers, and the largest of some. (Of none it is 0; an order of at least one row is never empty.)
unfoldable pub max_z : ℤ → ℤ → ℤ
max_z a b = cond (le_z a b) b a

unfoldable pub worst_of : List ℤ → ℤ
worst_of [] = pos 0
worst_of (y ∷ []) = y
worst_of (y ∷ z ∷ zs) = max_z y (worst_of (z ∷ zs))

-- All latenesses are at most y.
unfoldable pub at_most : ℤ → List ℤ → Bool
at_most y [] = true
at_most y (z ∷ zs) = le_z z y && at_most y zs

-- An order of the rows `left` has each of them once and nothing else.
abbrev pub OrderOf : List ℕ → List ℕ → Type 0
OrderOf left order = Permᴰ order left

module _ (job : ℕ → Job) where
  -- Lateness is end minus due, signed. (A job starts at the later of the minute and its release and ends its length later: `finish`.)
  abbrev pub lateness : ℕ → ℕ → ℤ
  lateness t i = sub_ℕ (finish (job i) t) (job i).due

  -- The desk's next minute after a whole order.
  unfoldable pub end_of : ℕ → List ℕ → ℕ
  end_of t [] = t
  end_of t (i ∷ is) = end_of (finish (job i) t) is

  -- Idle minutes, place by place: release minus the desk's minute where that is positive. And the sum of the lengths.
  unfoldable pub idle_of : ℕ → List ℕ → ℕ
  idle_of t [] = 0
  idle_of t (i ∷ is) = ((job i).release - t) + idle_of (finish (job i) t) is

  unfoldable pub lengths_of : List ℕ → ℕ
  lengths_of [] = 0
  lengths_of (i ∷ is) = (job i).length + lengths_of is

  -- The latenesses of an order, row by row.
  unfoldable pub latenesses : ℕ → List ℕ → List ℤ
  latenesses t [] = []
  latenesses t (i ∷ is) = lateness t i ∷ latenesses (finish (job i) t) is

  -- An order's end and worst lateness.
  abbrev pub pair_of : ℕ → List ℕ → Pair
  pair_of t order = record { end = end_of t order; late = worst_of (latenesses t order) }

  -- The order keeps the bound y: its worst lateness is at most y.
  abbrev pub keeps : ℤ → ℕ → List ℕ → Bool
  keeps y t order = at_most y (latenesses t order)

  -- The order is one of the rows `left` and attains the pair.
  abbrev pub Attains : ℕ → List ℕ → List ℕ → Pair → Type 0
  Attains t left order p = OrderOf left order × (pair_of t order ≡ p)

-- Opens every definition of this file: name it on an `unfolding` line where all is to be computed.
unfoldable pub open_desk : Unit {0}
unfolding finish max_z worst_of at_most end_of idle_of lengths_of latenesses
open_desk = tt
