-- The mean of signed numbers in exact numbers: a quotient rounded down, and a remainder.
-- Rests on nothing.
use Rattle.std.specs.Prelude.{ℕ, suc, ◌-◌, ◌/◌, ◌%◌, ◌≤◌, ◌<◌, ◌≡◌, ℤ, pos, negsuc, ◌+ℤ◌, ◌*ℤ◌}

pub record Mean : Type 0 where
  pub quotient : ℤ
  pub remainder : ℕ

-- A total over n: rounded down also where it is negative, so that the remainder is never below 0.
unfoldable pub mean_of : ℤ → ℕ → Mean
mean_of (pos a) n = record { quotient = pos (a / n); remainder = a % n }
mean_of (negsuc a) n = record { quotient = negsuc (a / n); remainder = n - suc (a % n) }

-- Quotient times n plus remainder is the total, and the remainder is from 0 to one less than n.
pub record IsMean (total : ℤ) (n : ℕ) (m : Mean) : Type 0 where
  pub sum : m.quotient *ℤ pos n +ℤ pos m.remainder ≡ total
  pub small : m.remainder < n

-- This holds of the mean as it is defined, and of no other quotient and remainder. The proof is `only_mean`, in proofs/Mean.antt.
abbrev pub OnlyMean : Type 0
OnlyMean = (total : ℤ) (n : ℕ) → 1 ≤ n → IsMean total n (mean_of total n) × ((m : Mean) → IsMean total n m → m ≡ mean_of total n)

-- Opens every definition of this file: name it on an `unfolding` line where all is to be computed.
unfoldable pub open_mean : Unit {0}
unfolding mean_of
open_mean = tt
