-- The line of the mean, where no day is accepted and where one is. Assumes nothing.
use Prim.Native.Nat.{ℕ, zero, suc, ◌≤◌}
use native.Mathlib.Omega.{arith}
use mathlib.Core.Path.{◌≡◌, refl}
use mathlib.Core.List.{[]}
use lib.IntN.{ℤ}
use Rattle.totals.specs.Mean.{mean_of}
use Rattle.report_lines.specs.ReportBytes.{mean_fields, mean_line}

pub no_mean : (total : ℤ) (n : ℕ) → n ≡ 0 → [] ≡ mean_line total n
unfolding mean_line
no_mean total zero h = refl
no_mean total (suc n) h = absurd (omega arith)

pub a_mean : (total : ℤ) (n : ℕ) → 1 ≤ n → mean_fields (mean_of total n) ≡ mean_line total n
unfolding mean_line
a_mean total zero h = absurd (omega arith)
a_mean total (suc n) h = refl
