-- Runs, without the count that bounds them.
-- Assumes nothing.
use Prim.Native.Nat.{ℕ}
use native.Mathlib.Omega.{arith}
use mathlib.Core.Bool.{true, false}
use mathlib.Core.Path.{◌≡◌, refl, ap, ◌∙◌}
use mathlib.Core.List.Memᴰ
use mathlib.Core.List.{List, [], ◌∷◌, Memᴰ}
use lib.ListN.{length}
use Rattle.theory.specs.Jobs.{Job, finish}
use Rattle.schedule.specs.Rows.{without}
use Rattle.schedule.specs.Picks.{first_pick, others, decided, run_for, run}
use Rattle.schedule.proofs.Orders.{length_without}
use Rattle.schedule.proofs.PickLaws.{run_step, run_stop}

module _ (job : ℕ → Job) (t : ℕ) where
  pub run_none : run job t [] ≡ []
  unfolding run run_for
  run_none = refl

  pub run_undecided : (left : List ℕ) → decided job t left ≡ false → run job t left ≡ []
  unfolding run
  run_undecided [] e = run_none
  run_undecided (i ∷ is) e = run_stop job (length is) t i is e

  pub run_takes : (left : List ℕ) → Memᴰ (first_pick job t left) left → decided job t left ≡ true →
      let p = first_pick job t left in run job t left ≡ p ∷ run job (finish (job p) t) (without p left)
  unfolding run others
  run_takes [] m e = absurd (Memᴰ.not-nil m)
  run_takes (i ∷ is) m e =
      let p = first_pick job t (i ∷ is) in
      let l : length is ≡ length (without p (i ∷ is)) = omega (arith, length_without p (i ∷ is) m) in
      run_step job (length is) t i is e ∙ ap (λ (k : ℕ). p ∷ run_for job k (finish (job p) t) (without p (i ∷ is))) l
