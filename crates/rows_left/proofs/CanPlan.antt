-- The rows left of a desk can be planned exactly if they end in time and no two of them disagree.
-- Assumes nothing.
use Prim.Native.Nat.{ℕ, ◌+◌, ◌*◌, ◌≤◌}
use native.Mathlib.Omega.{arith}
use mathlib.Core.Bool.{true}
use mathlib.Core.Path.{◌≡◌, refl}
use mathlib.Core.List.{List}
use mathlib.Core.Logic.{◌↔◌}
use lib.Dec.{T, leb, leb→le}
use lib.ListN.{length}
use borrow.Author.Tests.{le-leb}
use Rattle.std.specs.Prelude.{Ok, Err}
use Rattle.schedule.specs.Limits.{longest_time, latest_end}
use Rattle.schedule.specs.declared.Profile.TheVariants.{Ordering}
use Rattle.schedule.specs.Cover.{Agreeing}
use Rattle.schedule.proofs.Tests.{parts, is_true, true_is}
use Rattle.refusals.specs.Tests.{Tested}
use Rattle.pairs.proofs.Clashes.{passed_none, none_passes}
use Rattle.readers.specs.Rules.{number_by, rule_tests}
use Rattle.readers.proofs.Rules.{clash_mutual, obeys, none_clashes}
use Rattle.running.specs.Running.{Running, job_in}
use Rattle.running.specs.Words.{running, is_desk, IsDesk}
use Rattle.running.proofs.Fits.{desk_says}
use Rattle.rows_left.specs.Left.{plain_left, has_passed, can_plan, plans_here}
use Rattle.rows_left.proofs.Plain.{plain_size, plain_agrees}

has_passed_lem : (o : Tested) → T (has_passed o) → o ≡ Ok tt
has_passed_lem (Ok _) t = refl
has_passed_lem (Err refusal) t = absurd t

module _ (d : Running) where
  abbrev size : length (plain_left d) ≡ length d.left
  size = plain_size (job_in d.rows) d.left

  pub can_plan_says : (can_plan d ≡ true) ↔
      ((d.minute + longest_time * length d.left ≤ latest_end) × Agreeing (job_in d.rows) d.left)
  unfolding can_plan
  can_plan_says = (
    λ e. let t = parts (leb (d.minute + longest_time * length (plain_left d)) latest_end)
        (has_passed (rule_tests Ordering (plain_left d))) (is_true _ e) in
        let room = leb→le (d.minute + longest_time * length (plain_left d)) latest_end t.0 in
        let none = passed_none (clash_mutual Ordering) (number_by Ordering) (plain_left d) (has_passed_lem _ t.1) in
        (omega (arith, room, size), (plain_agrees (job_in d.rows) d.left).0 (obeys Ordering (plain_left d) none)),
    λ h. let passes : rule_tests Ordering (plain_left d) ≡ Ok tt =
        none_passes (clash_mutual Ordering) (number_by Ordering) (plain_left d)
        (none_clashes Ordering (plain_left d) ((plain_agrees (job_in d.rows) d.left).1 h.1)) in
        rw (le-leb (d.minute + longest_time * length (plain_left d)) latest_end (omega (arith, h.0, size)), passes),
  )

-- Words hold a desk whose rows left can be planned exactly if they hold a desk, and its rows left can.
pub plans_here_says : (ws : List ℕ) → (plans_here ws ≡ true) ↔ (IsDesk ws × (can_plan (running ws) ≡ true))
unfolding plans_here
plans_here_says ws = (
  λ e. let t = parts (is_desk ws) (can_plan (running ws)) (is_true _ e) in ((desk_says ws).0 (true_is _ t.0), true_is _ t.1),
  λ h. rw ((desk_says ws).1 h.0, h.1),
)
