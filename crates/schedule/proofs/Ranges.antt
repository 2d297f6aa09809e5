-- Every order of rows in range ends and is late within the limits.
-- Assumes nothing.
use Prim.Native.Nat.{ℕ, suc, ◌+◌, ◌*◌, ◌≤◌, ◌<◌}
use native.Mathlib.Omega.{arith}
use native.Mathlib.Nat.{mul-suc, mul-le-mul_left}
use mathlib.Core.List.{List, [], ◌∷◌, Memᴰ}
use mathlib.Core.Path.{◌≡◌, refl}
use lib.Dec.{T}
use lib.ListN.{length}
use lib.IntN.{ℤ, pos, negsuc, sub_ℕ}
use lib.Signed.{le_z}
use Rattle.theory.specs.Jobs.{Job, finish}
use Rattle.schedule.specs.Desk.{lateness, latenesses, at_most, keeps, end_of, pair_of}
use Rattle.schedule.specs.Cover.{Fits32}
use Rattle.schedule.specs.Ranges.{Ranged, InRange}
use Rattle.schedule.proofs.Signed.{◌≼◌, le_z→, →le_z, sub_level}
use Rattle.schedule.proofs.Tests.{both, parts}
use Rattle.schedule.proofs.DeskLaws.{keeps_late, late_keeps}
use Rattle.schedule.proofs.Orders.{perm_count, perm_all}

module _ (top long n : ℕ) (job : ℕ → Job) where
  -- The minute after k rows.
  by_now : ℕ → ℕ
  by_now k = top + long * k

  by_next : (k : ℕ) → by_now (suc k) ≡ by_now k + long
  unfolding by_now
  by_next k = omega (arith, mul-suc long k)

  by_last : (k : ℕ) → k ≤ n → by_now k ≤ by_now n
  unfolding by_now
  by_last k h = omega (arith, mul-le-mul_left long h)

  abbrev Early : List ℕ → Type 0
  Early order = (i : ℕ) → Memᴰ i order → ((job i).release ≤ top) × ((job i).length ≤ long)

  step : (k t i : ℕ) → t ≤ by_now k → ((job i).release ≤ top) × ((job i).length ≤ long) → finish (job i) t ≤ by_now (suc k)
  unfolding finish by_now
  step k t i h r = omega (arith, by_next k, r)

  ends_by_lem : (k t : ℕ) (order : List ℕ) → t ≤ by_now k → k + length order ≤ n → Early order → end_of job t order ≤ by_now n
  unfolding end_of
  ends_by_lem k t [] h l r = omega (arith, by_last k (omega arith))
  ends_by_lem k t (i ∷ is) h l r =
      ends_by_lem (suc k) (finish (job i) t) is (step k t i h (r i (Memᴰ.head refl))) (omega arith) (λ j m. r j (Memᴰ.tail m))

  keeps_by : (k t : ℕ) (order : List ℕ) → t ≤ by_now k → k + length order ≤ n → Early order → T (keeps job (pos (by_now n)) t order)
  unfolding latenesses at_most
  keeps_by k t [] h l r = tt
  keeps_by k t (i ∷ is) h l r =
      let e = step k t i h (r i (Memᴰ.head refl)) in
      both (le_z (lateness job t i) (pos (by_now n))) (keeps job (pos (by_now n)) (finish (job i) t) is)
      (→le_z (lateness job t i) (pos (by_now n))
      (omega (arith, e, by_last (suc k) (omega arith), sub_level (finish (job i) t) (job i).due)))
      (keeps_by (suc k) (finish (job i) t) is e (omega arith) (λ j m. r j (Memᴰ.tail m)))

-- The first row alone is no less late than it can be at least.
at_least : (short late : ℕ) (job : ℕ → Job) (t : ℕ) (order : List ℕ) → 0 < length order →
    ((i : ℕ) → Memᴰ i order → (short ≤ (job i).length) × ((job i).due ≤ late)) → sub_ℕ short late ≼ (pair_of job t order).late
unfolding latenesses at_most finish
at_least short late job t [] h r = let z : ⊥ = omega arith in absurd z
at_least short late job t (i ∷ is) h r =
    let y : ℤ = (pair_of job t (i ∷ is)).late in
    let k = (parts (le_z (lateness job t i) y) (keeps job y (finish (job i) t) is) (late_keeps job y t (i ∷ is) h (omega arith))).0 in
    omega (arith, le_z→ (lateness job t i) y k, r i (Memᴰ.head refl), sub_level (finish (job i) t) (job i).due, sub_level short late)

pub in_range : InRange
unfolding by_now
in_range top short long late n job t left r some order o =
    let q = (perm_count o).0 in
    let all = perm_all (λ i. ((job i).release ≤ top) × (short ≤ (job i).length) × ((job i).length ≤ long) × ((job i).due ≤ late)) o
    r.ranges in
    let early : (i : ℕ) → Memᴰ i order → ((job i).release ≤ top) × ((job i).length ≤ long) = λ i m. ((all i m).0, (all i m).2) in
    let h : t ≤ top + long * 0 = omega (arith, r.early) in (
      ends_by_lem top long n job 0 t order h (omega (arith, r.few)) early,
      record {
        le = →le_z (pair_of job t order).late (pos (top + long * n))
            (keeps_late job (pos (top + long * n)) t order (omega arith)
            (keeps_by top long n job 0 t order h (omega (arith, r.few)) early));
      },
      record {
        le = →le_z (sub_ℕ short late) (pair_of job t order).late
            (at_least short late job t order (omega arith) (λ i m. ((all i m).1, (all i m).3)));
      },
    )

-- In ranges small enough every lateness is a signed 32-bit number.
pub fits_32 : (top short long late n : ℕ) {job : ℕ → Job} {t : ℕ} {left : List ℕ} → top + long * n ≤ 2147483647 → late ≤ 2147483648 →
    Ranged top short long late n job t left → 0 < length left → Fits32 job t left
fits_32 top short long late n {job} {t} {left} h k r some order o =
    let w = in_range top short long late n job t left r some order o in
    let y : ℤ = (pair_of job t order).late in
    let a = le_z→ y (pos (top + long * n)) w.1.le in
    let b = le_z→ (sub_ℕ short late) y w.2.le in (
      record { le = →le_z (negsuc 2147483647) y (omega (arith, b, sub_level short late)) },
      record { le = →le_z y (pos 2147483647) (omega (arith, a)) },
    )
