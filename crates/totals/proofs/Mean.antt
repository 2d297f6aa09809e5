-- The mean as it is defined is the only quotient and remainder there is. Assumes nothing.
use Prim.Native.Nat.{ℕ, suc, ◌+◌, ◌*◌, ◌/◌, ◌%◌, ◌≤◌, ◌<◌}
use native.Mathlib.Omega.{arith}
use native.Mathlib.Decide.{dec_lt}
use native.Mathlib.Nat.{add-mul, suc-mul, mod-lt, mul-le-mul_right, div-add-mod'}
use mathlib.Core.Path.{◌≡◌, ap}
use lib.IntN.{ℤ, pos, negsuc, sub_ℕ, ◌+ℤ◌, ◌*ℤ◌}
use Rattle.schedule.specs.Offset.{lowered}
use Rattle.schedule.proofs.Signed.{up, down, level, sub_level}
use Rattle.totals.specs.Mean.{Mean, mean_of, IsMean, OnlyMean}
use Rattle.totals.proofs.Levels.{plus_level, times_level}

-- Of two numbers and two remainders below n.
divided : (n a b r s : ℕ) → a * n + r ≡ b * n + s → r < n → s < n → a ≡ b
divided n a b r s e h k = step (dec_lt a b) (dec_lt b a)
  where
    step : Dec (a < b) → Dec (b < a) → a ≡ b
    step (yes l) d = absurd (omega (arith, mul-le-mul_right {m = suc a} {n = b} n (omega arith), suc-mul a n, e))
    step (no l) (yes m) = absurd (omega (arith, mul-le-mul_right {m = suc b} {n = a} n (omega arith), suc-mul b n, e))
    step (no l) (no m) = omega arith

-- The total, with what lies below zero on the other side.
module _ (total : ℤ) (n : ℕ) where
  abbrev Level : Mean → Type 0
  Level m = up m.quotient * n + m.remainder + down total ≡ up total + down m.quotient * n

  to_level : (m : Mean) → m.quotient *ℤ pos n +ℤ pos m.remainder ≡ total → Level m
  to_level m e =
      omega (
        arith,
        times_level m.quotient n,
        plus_level (m.quotient *ℤ pos n) (pos m.remainder),
        ap up e,
        ap down e,
      )

  from_level : (m : Mean) → Level m → m.quotient *ℤ pos n +ℤ pos m.remainder ≡ total
  from_level m e =
      level (m.quotient *ℤ pos n +ℤ pos m.remainder) total
      (omega (arith, times_level m.quotient n, plus_level (m.quotient *ℤ pos n) (pos m.remainder), e))

  only : (m k : Mean) → IsMean total n m → IsMean total n k → m ≡ k
  only m k p q =
      let a = to_level m p.sum in
      let b = to_level k q.sum in
      let s = add-mul (up m.quotient) (down k.quotient) n in
      let t = add-mul (up k.quotient) (down m.quotient) n in
      let e = divided n (up m.quotient + down k.quotient) (up k.quotient + down m.quotient) m.remainder
      k.remainder (omega (arith, a, b, s, t)) p.small q.small in
      let r : m.remainder ≡ k.remainder = omega (arith, a, b, s, t, ap (λ (i : ℕ). i * n) e) in
      let f = level m.quotient k.quotient e in
      λ x. record { quotient = f x; remainder = r x }

is_mean : (total : ℤ) (n : ℕ) → 1 ≤ n → IsMean total n (mean_of total n)
unfolding mean_of
is_mean (pos a) n h = record {
  sum = from_level (pos a) n (mean_of (pos a) n) (omega (arith, div-add-mod' a n));
  small = mod-lt a h;
}
is_mean (negsuc a) n h = record {
  sum = from_level (negsuc a) n (mean_of (negsuc a) n) (omega (arith, div-add-mod' a n, suc-mul (a / n) n, mod-lt a h));
  small = omega arith;
}

pub only_mean : OnlyMean
only_mean total n h = (is_mean total n h, λ m p. only total n m (mean_of total n) p (is_mean total n h))

-- A sum of n numbers that are raised by 2³¹ divides as they do.
pub raised_mean : (sum n : ℕ) → 1 ≤ n →
    record { quotient = lowered (sum / n); remainder = sum % n } ≡ mean_of (sub_ℕ sum (n * 2147483648)) n
raised_mean sum n h = (only_mean (sub_ℕ sum (n * 2147483648)) n h).1 (record { quotient = lowered (sum / n); remainder = sum % n }) (record {
  sum = from_level (sub_ℕ sum (n * 2147483648)) n (record { quotient = lowered (sum / n); remainder = sum % n }) levels;
  small = mod-lt sum h;
})
  where
    q : ℤ
    q = lowered (sum / n)

    levels : up q * n + sum % n + down (sub_ℕ sum (n * 2147483648)) ≡ up (sub_ℕ sum (n * 2147483648)) + down q * n
    levels = omega (
      arith,
      div-add-mod' sum n,
      sub_level sum (n * 2147483648),
      add-mul (up q) 2147483648 n,
      add-mul (sum / n) (down q) n,
      ap (λ (i : ℕ). i * n) (sub_level (sum / n) 2147483648),
    )
