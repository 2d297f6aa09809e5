-- Laws of the length of a row: it lies between 1 and 30,000, and is the reading time to the nearest minute, an exact half going up.
-- Assumes nothing.
use Prim.Native.Nat.{ℕ, ◌+◌, ◌*◌, ◌/◌, ◌≤◌, ◌<◌}
use native.Mathlib.Nat.{add-mul, one-mul, mul_left_comm, mul-le-mul_right, le_of_lt, le_of_eq, div-mul-le_self, lt-div-mul-add}
use native.Mathlib.Nat.{le-div_iff_mul-le, div-lt_iff_lt-mul}
use native.Mathlib.Decide.{dec_lt}
use native.Mathlib.Omega.{arith}
use mathlib.Core.Path.{◌≡◌, refl, ap}
use Rattle.schedule.specs.Limits.{longest_length}
use Rattle.row_reader.specs.NearestMinute.{length_of}
use Rattle.row_reader.specs.NearestMinute.{distance, NearestMinute}

-- What is known of a quotient.
module _ {x k : ℕ} (q : ℕ) (e : q ≡ x / k) (p : 0 < k) where
  reaches : q * k ≤ x
  reaches = rw e (div-mul-le_self x k)

  falls_short : x < q * k + k
  falls_short = rw e (lt-div-mul-add p)

  at_least : (n : ℕ) → n * k ≤ x → n ≤ q
  at_least n h = rw e ((le-div_iff_mul-le p).1 h)

  below : (n : ℕ) → x < n * k → q < n
  below n h = rw e ((div-lt_iff_lt-mul p).1 h)

-- One minute more has `pace` parts more.
next_minute : (m n pace : ℕ) → m < n → m * pace + pace ≤ n * pace
next_minute m n pace h = omega (arith, mul-le-mul_right pace h, add-mul m 1 pace, one-mul pace)

module _ (pages pace : ℕ) where
  abbrev long : ℕ
  long = length_of pages pace

  pub length_least : 1 ≤ pages → 4 ≤ pace → pace ≤ 120 → 1 ≤ length_of pages pace
  length_least a b c = at_least long refl (omega arith) 1 (omega arith)

  pub length_most : pages ≤ 2000 → 4 ≤ pace → length_of pages pace ≤ longest_length
  length_most a b = omega (arith, below long refl (omega arith) 30001 (omega arith))

  module _ (some : 0 < pace) where
    -- The length is at most half a minute above the reading time, and less than half a minute below it.
    high : 2 * (long * pace) ≤ 2 * (pages * 60) + pace
    high = omega (arith, reaches long refl (omega arith), mul_left_comm long 2 pace)

    low : 2 * (pages * 60) < 2 * (long * pace) + pace
    low = omega (arith, falls_short long refl (omega arith), mul_left_comm long 2 pace)

    -- So it is nearer than any greater number, and as near as any smaller one.
    nearer : (n : ℕ) → long < n → distance pages pace long < distance pages pace n
    nearer n h = omega (arith, high, low, next_minute long n pace h)

    as_near : (n : ℕ) → n < long → distance pages pace long ≤ distance pages pace n
    as_near n h = omega (arith, high, low, next_minute n long pace h)

    near : (n : ℕ) → distance pages pace long ≤ distance pages pace n
    near n = step (dec_lt n long) (dec_lt long n)
      where
        step : Dec (n < long) → Dec (long < n) → distance pages pace long ≤ distance pages pace n
        step (yes h) d = as_near n h
        step (no h) (yes g) = le_of_lt (nearer n g)
        step (no h) (no g) = let e : long ≡ n = omega arith in le_of_eq (ap (distance pages pace) e)

    half_goes_up : (n : ℕ) → distance pages pace n ≡ distance pages pace long → n ≤ long
    half_goes_up n e = step (dec_lt long n)
      where
        step : Dec (long < n) → n ≤ long
        step (yes h) = omega (arith, nearer n h)
        step (no h) = omega arith

pub nearest_minute : NearestMinute
nearest_minute pages pace a b c d =
    let some : 0 < pace = omega arith in
    record {
      nearest = near pages pace some;
      half_up = half_goes_up pages pace some;
      least = length_least pages pace a c d;
      most =
          length_most pages pace b c;
    }
