-- Sums and products of signed numbers as two naturals, what a number has above zero and what below, so that omega reads them.
-- Assumes nothing.
use Prim.Native.Nat.{ℕ, zero, suc, ◌+◌, ◌*◌}
use native.Mathlib.Omega.{arith}
use mathlib.Core.Path.{◌≡◌}
use lib.IntN.{ℤ, pos, negsuc, neg_ℤ, ◌+ℤ◌, ◌*ℤ◌}
use Rattle.schedule.proofs.Signed.{up, down, sub_level}

pub plus_level : (a b : ℤ) → up (a +ℤ b) + (down a + down b) ≡ up a + up b + down (a +ℤ b)
plus_level (pos a) (pos b) = omega arith
plus_level (pos a) (negsuc b) = omega (arith, sub_level a (suc b))
plus_level (negsuc a) (pos b) = omega (arith, sub_level b (suc a))
plus_level (negsuc a) (negsuc b) = omega arith

minus_level : (n : ℕ) → up (neg_ℤ (pos n)) + n ≡ down (neg_ℤ (pos n))
minus_level zero = omega arith
minus_level (suc n) = omega arith

pub times_level : (z : ℤ) (n : ℕ) → up (z *ℤ pos n) + down z * n ≡ up z * n + down (z *ℤ pos n)
times_level (pos a) n = omega arith
times_level (negsuc a) n = omega (arith, minus_level (suc a * n))
