-- Laws of the desk: idle minutes, and that an order keeps a bound exactly if its worst lateness does.
-- Assumes nothing.
use Prim.Native.Nat.{ℕ, ◌+◌, ◌<◌}
use native.Mathlib.Omega.{arith}
use mathlib.Core.Path.{◌≡◌}
use mathlib.Core.Bool.{Bool, true, false, not, cond, ◌&&◌}
use mathlib.Core.List.{List, [], ◌∷◌}
use lib.Dec.{T}
use lib.ListN.{length}
use lib.IntN.{ℤ}
use lib.Signed.{le_z}
use Rattle.theory.specs.Jobs.{Job, finish}
use Rattle.schedule.specs.Desk.{max_z, worst_of, at_most, end_of, idle_of, lengths_of, latenesses, pair_of, keeps}
use Rattle.schedule.specs.Cover.{IdleSum}
use Rattle.schedule.proofs.Signed.{◌≼◌, le_z→, →le_z, le_z_trans, le_z_total}
use Rattle.schedule.proofs.Tests.{both, parts}

-- Idle plus all lengths is end minus the minute at the start.
idle : (job : ℕ → Job) (t : ℕ) (order : List ℕ) → t + (idle_of job t order + lengths_of job order) ≡ end_of job t order
unfolding idle_of lengths_of end_of finish
idle job t [] = omega arith
idle job t (i ∷ is) = omega (arith, idle job (finish (job i) t) is)

pub idle_sum : IdleSum
idle_sum = idle

-- Latenesses are all at most y exactly where the largest is.
pub worst_kept : (y z : ℤ) (zs : List ℤ) → T (le_z (worst_of (z ∷ zs)) y) → T (at_most y (z ∷ zs))
unfolding worst_of at_most max_z
worst_kept y z [] h = both (le_z z y) true h tt
worst_kept y z (w ∷ ws) h = go (le_z z (worst_of (w ∷ ws))) (λ t. t) (le_z_total z (worst_of (w ∷ ws))) h (worst_kept y w ws)
  where
    m : ℤ
    m = worst_of (w ∷ ws)

    go : (b : Bool) → (T b → T (le_z z m)) → (T (not b) → T (le_z m z)) → T (le_z (cond b m z) y) → (T (le_z m y) → T (at_most y (w ∷ ws))) →
        T (le_z z y && at_most y (w ∷ ws))
    go true i o t f = both (le_z z y) (at_most y (w ∷ ws)) (le_z_trans z m y (i tt) t) (f t)
    go false i o t f = both (le_z z y) (at_most y (w ∷ ws)) t (f (le_z_trans m z y (o tt) t))

pub kept_worst : (y z : ℤ) (zs : List ℤ) → T (at_most y (z ∷ zs)) → T (le_z (worst_of (z ∷ zs)) y)
unfolding worst_of at_most max_z
kept_worst y z [] h = (parts (le_z z y) true h).0
kept_worst y z (w ∷ ws) h =
    let p = parts (le_z z y) (at_most y (w ∷ ws)) h in go (le_z z (worst_of (w ∷ ws))) p.0 (kept_worst y w ws p.1)
  where
    go : (b : Bool) → T (le_z z y) → T (le_z (worst_of (w ∷ ws)) y) → T (le_z (cond b (worst_of (w ∷ ws)) z) y)
    go true s t = t
    go false s t = s

-- An order of at least one row keeps a bound exactly if its worst lateness is at most it.
module _ (job : ℕ → Job) (y : ℤ) (t : ℕ) where
  pub keeps_late : (order : List ℕ) → 0 < length order → T (keeps job y t order) → (pair_of job t order).late ≼ y
  unfolding latenesses
  keeps_late [] h k = let z : ⊥ = omega arith in absurd z
  keeps_late (i ∷ is) h k = le_z→ (worst_of (latenesses job t (i ∷ is))) y (kept_worst y _ _ k)

  pub late_keeps : (order : List ℕ) → 0 < length order → (pair_of job t order).late ≼ y → T (keeps job y t order)
  unfolding latenesses
  late_keeps [] h k = let z : ⊥ = omega arith in absurd z
  late_keeps (i ∷ is) h k = worst_kept y _ _ (→le_z (worst_of (latenesses job t (i ∷ is))) y k)
