-- What is planned on a running desk keeps its promise, where rows are left, in their ranges, and can be planned.
-- Assumes nothing.
use Prim.Native.Nat.{ℕ, ◌≤◌, ◌<◌}
use native.Mathlib.Omega.{arith}
use mathlib.Core.Bool.{true}
use mathlib.Core.Path.{◌≡◌, refl}
use mathlib.Core.List.{List, [], ◌∷◌, Memᴰ}
use lib.ListN.{length}
use Rattle.theory.specs.Jobs.{Job}
use Rattle.schedule.specs.Limits.{latest_minute, longest_time, latest_due, latest_end}
use Rattle.schedule.specs.Plans.{plans}
use Rattle.schedule.proofs.Ranges.{fits_32}
use Rattle.schedule.proofs.Cover.{promised}
use Rattle.outcomes.proofs.Sound.{Sound}
use Rattle.running.specs.Running.{Running, job_in}
use Rattle.rows_left.specs.Left.{can_plan}
use Rattle.rows_left.proofs.CanPlan.{can_plan_says}
use Rattle.desk_plans.specs.Plans.{plans_from, planning_left}

plans_from_lem : (job : ℕ → Job) (t : ℕ) (left : List ℕ) → 0 < length left → plans_from job t left ≡ plans job t left
unfolding plans_from
plans_from_lem job t [] h = let z : ⊥ = omega arith in absurd z
plans_from_lem job t (i ∷ is) h = refl

-- The ranges of what the rows left have.
abbrev pub LeftRanged : Running → Type 0
LeftRanged d = (i : ℕ) → Memᴰ i d.left →
    ((job_in d.rows i).release ≤ latest_minute) × (1 ≤ (job_in d.rows i).length) ×
    ((job_in d.rows i).length ≤ longest_time) × ((job_in d.rows i).due ≤ latest_due)

pub sound_left : (d : Running) → 0 < length d.left → LeftRanged d → can_plan d ≡ true → Sound (planning_left d)
sound_left d some_row ranged can =
    let s = (can_plan_says d).0 can in
    record {
      fits = fits_32 latest_end 1 longest_time latest_due (length d.left) (omega (arith, s.0)) (omega arith)
          (record {
            early = omega (arith, s.0);
            few = omega arith;
            ranges = λ i m. let r = ranged i m in (omega (arith, r.0), r.1, r.2, r.3);
          })
          some_row;
      front = plans_from_lem (job_in d.rows) d.minute d.left some_row;
      promise = promised (job_in d.rows) d.minute d.left s.1 some_row;
    }
