-- Rows left that pass the tests of a change of pace agree on the desk after it; and rows that agree pass the tests of the pace that they
-- are read at.
-- Assumes nothing.
use Prim.Native.Nat.{ℕ, zero, suc, ◌+◌, ◌≤◌}
use native.Mathlib.Omega.{arith}
use mathlib.Core.Bool.{Bool, cond}
use mathlib.Core.Path.{◌≡◌, sym, ap, ◌∙◌, subst}
use mathlib.Core.List.{Memᴰ}
use lib.ListN.{length}
use Rattle.std.specs.Prelude.{Ok}
use Rattle.theory.specs.Jobs.{Job}
use Rattle.schedule.specs.declared.Profile.TheVariants.{Ordering}
use Rattle.schedule.specs.Rows.{with_opening}
use Rattle.schedule.specs.Cover.{Agreeing}
use Rattle.schedule.proofs.Opening.{opening_laws}
use Rattle.schedule.proofs.Stands.{mem_stands}
use Rattle.pairs.proofs.Clashes.{passed_none, none_passes}
use Rattle.readers.specs.Rules.{number_by, rule_tests}
use Rattle.readers.proofs.Rules.{clash_mutual, obeys, none_clashes}
use Rattle.running.specs.Running.{Running, no_job, job_in}
use Rattle.running.proofs.Fits.{counted_at}
use Rattle.rows_left.proofs.Plain.{Agree, plain_agrees}
use Rattle.desk_pace.specs.Paces.{job_by_pace, seen_by_pace, repaced, left_by_pace}

module _ (d : Running) (pace : ℕ) where
  -- What planning sees of a row of the desk after the change.
  pub seen_at : (i : ℕ) → 1 ≤ i → i ≤ length d.rows → job_in (repaced d pace).rows i ≡ seen_by_pace d pace i
  seen_at zero h g = let z : ⊥ = omega arith in absurd z
  seen_at (suc i) h g =
      let e : 1 + i ≡ suc i = omega arith in
      counted_at (seen_by_pace d pace) no_job 1 (length d.rows) i (omega arith) ∙ ap (seen_by_pace d pace) e

  module _ (inside : (i : ℕ) → Memᴰ i d.left → (1 ≤ i) × (i ≤ length d.rows)) where
    pub seen_left : (i : ℕ) → Memᴰ i d.left → job_in (repaced d pace).rows i ≡ with_opening d.opening (job_by_pace d pace i)
    seen_left i m =
        let r = inside i m in
        seen_at i r.0 r.1 ∙
        ap (λ (b : Bool). cond b (with_opening d.opening (job_by_pace d pace i)) (job_in d.rows i)) (mem_stands i d.left m)

    pub repaced_agree : rule_tests Ordering (left_by_pace d pace) ≡ Ok tt → Agreeing (job_in (repaced d pace).rows) d.left
    repaced_agree e i j m n =
        let none = passed_none (clash_mutual Ordering) (number_by Ordering) (left_by_pace d pace) e in
        let own = (plain_agrees (job_by_pace d pace) d.left).0 (obeys Ordering (left_by_pace d pace) none) in
        let opened = ((opening_laws d.opening (job_by_pace d pace)).rule Ordering d.left).1 own in
        subst (λ (x : Job). Agree x (job_in (repaced d pace).rows j)) (sym (seen_left i m))
        (subst (Agree (with_opening d.opening (job_by_pace d pace i))) (sym (seen_left j n)) (opened i j m n))

  -- Rows left that agree, and have their lengths by this pace already, pass its tests.
  pub same_passes : ((i : ℕ) → Memᴰ i d.left → job_in d.rows i ≡ with_opening d.opening (job_by_pace d pace i)) →
      Agreeing (job_in d.rows) d.left → rule_tests Ordering (left_by_pace d pace) ≡ Ok tt
  same_passes same agree =
      let opened : Agreeing (λ i. with_opening d.opening (job_by_pace d pace i)) d.left =
      λ i j m n. subst (λ (x : Job). Agree x (with_opening d.opening (job_by_pace d pace j))) (same i m)
      (subst (Agree (job_in d.rows i)) (same j n) (agree i j m n)) in
      let own = ((opening_laws d.opening (job_by_pace d pace)).rule Ordering d.left).0 opened in
      none_passes (clash_mutual Ordering) (number_by Ordering) (left_by_pace d pace)
      (none_clashes Ordering (left_by_pace d pace) ((plain_agrees (job_by_pace d pace) d.left).1 own))
