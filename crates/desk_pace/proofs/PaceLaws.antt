-- The outcome of a change of pace, by what its tests have found.
-- Assumes nothing.
use Prim.Native.Nat.{ℕ, ◌≤◌}
use mathlib.Core.Bool.{true, false, not}
use mathlib.Core.Path.{◌≡◌}
use mathlib.Core.List.{List}
use borrow.Author.Tests.{not-false}
use Rattle.std.specs.Prelude.{Ok, Err}
use Rattle.schedule.specs.Limits.{least_pace, most_pace}
use Rattle.schedule.specs.declared.Profile.TheVariants.{Ordering}
use Rattle.schedule.proofs.Tests.{is_true}
use Rattle.refusals.specs.declared.Refusal.{Refusal}
use Rattle.refusals.specs.Refusals.{by_range}
use Rattle.refusals.specs.Tests.{refuse_if, ◌then◌, refusal_at}
use Rattle.readers.specs.Rules.{rule_tests}
use Rattle.outcomes.specs.Planning.{gives}
use Rattle.running.specs.Running.{Running, between}
use Rattle.running.specs.Words.{running, keeps_pages}
use Rattle.running.proofs.Fits.{lies}
use Rattle.desk_pace.specs.Paces.{left_by_pace, placed_back, pace_tests, repaced_words, pace_outcome, pace_call}

module _ (d : Running) (pace : ℕ) where
  -- A pace outside the limits, and one within them.
  pub tests_outside : not (between least_pace most_pace pace) ≡ true → pace_tests d pace ≡ Err (refusal_at by_range 0)
  unfolding pace_tests refuse_if ◌then◌
  tests_outside e = rw e

  module _ (e : not (between least_pace most_pace pace) ≡ false) where
    pub paced : (least_pace ≤ pace) × (pace ≤ most_pace)
    paced = lies least_pace most_pace pace (is_true _ (not-false (between least_pace most_pace pace) e))

    pub tests_inside : pace_tests d pace ≡ placed_back d.left (rule_tests Ordering (left_by_pace d pace))
    unfolding pace_tests refuse_if ◌then◌
    tests_inside = rw e

module _ (ws : List ℕ) (pace : ℕ) where
  -- No desk with its pages; a change that is turned down; one that is not.
  pub pace_none : keeps_pages ws ≡ false → pace_call ws pace ≡ gives (Err (refusal_at by_range 0)) ws
  unfolding pace_call
  pace_none e = rw (e, pace_call)

  module _ (keeps : keeps_pages ws ≡ true) where
    pub pace_no : (refusal : Refusal) → pace_tests (running ws) pace ≡ Err refusal → pace_call ws pace ≡ gives (Err refusal) ws
    unfolding pace_call pace_outcome
    pace_no refusal e = rw (keeps, pace_call, e, pace_outcome)

    pub pace_yes : pace_tests (running ws) pace ≡ Ok tt → pace_call ws pace ≡ gives (Ok tt) (repaced_words ws pace)
    unfolding pace_call pace_outcome
    pace_yes e = rw (keeps, pace_call, e, pace_outcome)
