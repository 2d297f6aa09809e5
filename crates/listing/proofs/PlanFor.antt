-- At its end the search answers with the desk after the order for the bound; and the next bound is one below its worst lateness.
-- Assumes nothing.
use Prim.Native.Nat.{ℕ, ◌≤◌, ◌<◌, ◌-◌}
use native.Mathlib.Omega.{arith}
use mathlib.Core.Bool.{Bool, true, false, cond}
use mathlib.Core.Path.{◌≡◌, refl, sym, ap, ◌∙◌, subst}
use mathlib.Core.List.{List}
use lib.Dec.{leb}
use lib.ListN.{length}
use borrow.Author.Tests.{leb-true, leb-false}
use Rattle.std.specs.Prelude.{Some, None}
use Rattle.theory.specs.Jobs.{Job}
use Rattle.schedule.specs.Limits.{most_rows}
use Rattle.schedule.specs.declared.Desk.{Desk}
use Rattle.schedule.specs.Desk.{end_of, pair_of}
use Rattle.schedule.specs.Columns.{Limits}
use Rattle.schedule.specs.Offset.{desk_at, raised}
use Rattle.trail.specs.declared.Reached.{Reached}
use Rattle.listing.specs.PlanFor.{Planned, answer_of, planned_of, Paired}
use Rattle.trail.specs.Trails.{Ended, Lowered}
use Rattle.search.proofs.Signs.{through_late, followed_end, followed_raised}
use Rattle.search.proofs.Ways.{way_done}

module _ (n : ℕ) (job : ℕ → Job) (by : ℕ → ℕ) (limits : Limits job) (free : ℕ) where
  -- At its end the search answers with the desk after the order for the bound.
  module _ (low : 1 ≤ n) (few : n ≤ most_rows) (bound : ℕ) (trail : List (List ℕ)) (r : Reached)
      (f : Ended n job by free bound trail r) where
    abbrev end : Desk
    end = r.at.desk

    desk_kept : end.worst ≤ bound → Paired job n free bound (Some end)
    unfolding planned_of
    desk_kept h =
        let x = f.came.kept h in
        let w = x.way in
        let all = f.all h in
        let some_row : 1 ≤ length x.done = omega (arith, w.count) in
        let m : end.minute ≡ end_of job free x.done = ap (λ (d : Desk). d.minute) w.desk ∙ followed_end job limits free x.done in
        let l : end.worst ≡ raised (pair_of job free x.done).late = ap (λ (d : Desk). d.worst) w.desk ∙
        followed_raised job limits free x.done some_row in
        record {
          answered = (λ i. Some (record { minute = m i; worst = l i })) ∙
              ap (planned_of job free) (sym (way_done job limits n by free bound x.done x.rest r.at w all h));
          bounded = (
            omega (arith, through_late job limits (desk_at free) x.done some_row, ap (λ (d : Desk). d.worst) w.desk),
            h,
            omega (arith, w.sits.lates, all),
          );
        }

    desk_over : bound < end.worst → Paired job n free bound None
    unfolding planned_of
    desk_over h = record { answered = ap (planned_of job free) (sym (f.came.over h)); bounded = tt }

    answers : Paired job n free bound (answer_of end bound)
    unfolding answer_of
    answers = go (leb end.worst bound) refl
      where
        go : (c : Bool) → leb end.worst bound ≡ c → Paired job n free bound (answer_of end bound)
        go true e = subst (λ (c : Bool). Paired job n free bound (cond c (Some end) None)) (sym e)
            (desk_kept (leb-true end.worst bound e))
        go false e = subst (λ (c : Bool). Paired job n free bound (cond c (Some end) None)) (sym e)
            (desk_over (leb-false end.worst bound e))

    -- The answer that the code has.
    pub answered : (said : Planned) → answer_of end bound ≡ said → Paired job n free bound said
    answered said e = subst (λ (a : Planned). Paired job n free bound a) e answers

  -- The bound goes one below the worst lateness of the plan found.
  pub lowers : (bound : ℕ) (trail : List (List ℕ)) (r : Reached) → Ended n job by free bound trail r → (desk : Desk) →
      answer_of r.at.desk bound ≡ Some desk → 1 ≤ desk.worst →
      Lowered n job by free bound (desk.worst - 1) trail r
  unfolding answer_of
  lowers bound trail r f desk given low = go (leb r.at.desk.worst bound) refl given
    where
      late_in : Planned → ℕ
      late_in None = 0
      late_in (Some d) = d.worst

      go : (c : Bool) → leb r.at.desk.worst bound ≡ c →
          cond c (Some r.at.desk) None ≡ Some desk → Lowered n job by free bound (desk.worst - 1) trail r
      go true x y = record { found = f; kept = leb-true r.at.desk.worst bound x; less = omega (arith, ap late_in y) }
      go false x y = let z : ⊥ = omega (arith, ap late_in y) in absurd z
