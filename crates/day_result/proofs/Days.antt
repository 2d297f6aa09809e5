-- The result of a book that is refused, and of one that is accepted, by what the reader gave.
-- Assumes nothing.
use Prim.Native.Nat.{ℕ, ◌+◌, ◌-◌}
use mathlib.Core.Path.{◌≡◌, refl, sym, ap, ◌∙◌, subst}
use mathlib.Core.List.{List, [], ◌∷◌, Memᴰ}
use lib.ListN.{length}
use Rattle.std.specs.Prelude.{Result, Ok, Err}
use Rattle.theory.specs.Jobs.{Job, finish}
use Rattle.schedule.specs.declared.Profile.TheVariants.{Ordering}
use Rattle.schedule.specs.Rows.{count_from, Day, jobs}
use Rattle.schedule.specs.Desk.{idle_of}
use Rattle.schedule.proofs.Numbers.{length_count}
use Rattle.schedule.proofs.Orders.{perm_all}
use Rattle.refusals.specs.declared.Refusal.{Refusal}
use Rattle.refusals.specs.Tests.{Tested}
use Rattle.book.specs.Rows.{refused, accepted}
use Rattle.rows.specs.InColumns.{jobs_of}
use Rattle.readers.specs.declared.Given.{Given}
use Rattle.readers.specs.Reads.{read_by, Gives}
use Rattle.readers.proofs.Readings.{given_passed}
use Rattle.postings.specs.Posting.{posting_tests}
use Rattle.outcomes.specs.Outcomes.{verdict_outcome}
use Rattle.outcomes.specs.Planning.{Planning, planning_in}
use Rattle.outcomes.specs.Plannable.{Plannable}
use Rattle.outcomes.proofs.OutcomeLaws.{verdict_no}
use Rattle.outcomes.proofs.Columns.{posting_order, same_judged}
use Rattle.calls.specs.Planned.{planned}
use Rattle.calls.proofs.Ready.{same, plannable}
use Rattle.day_result.specs.declared.DayResult.TheVariants.{Refused}
use Rattle.day_result.specs.DayResults.{month_terms, result_of, day_result}

pub day_refused : (book posting : List ℕ) (n p : ℕ) → read_by month_terms book ≡ refused n p → day_result book posting ≡ Refused
unfolding day_result
day_refused book posting n p e = rw (e, day_result)

pub day_of_lem : (book posting : List ℕ) (day : Day) → read_by month_terms book ≡ accepted day →
    day_result book posting ≡ result_of (idle_of (jobs 0 day) day.free posting) (verdict_outcome (planned month_terms day) posting)
unfolding day_result
day_of_lem book posting day e = rw (e, day_result)

-- Jobs that are the same on an order have the same idle minutes.
idle_same : (job job' : ℕ → Job) (t : ℕ) (order : List ℕ) → ((i : ℕ) → Memᴰ i order → job i ≡ job' i) →
    idle_of job t order ≡ idle_of job' t order
unfolding idle_of
idle_same job job' t [] h = refl
idle_same job job' t (i ∷ is) h =
    ap (λ (j : Job). (j.release - t) + idle_of job (finish j t) is) (h i (Memᴰ.head refl)) ∙
    ap (λ (n : ℕ). ((job' i).release - t) + n) (idle_same job job' (finish (job' i) t) is (λ k m. h k (Memᴰ.tail m)))

-- And the same result: a posting that is none is refused, whatever its idle minutes.
module _ {job job' : ℕ → Job} {t n : ℕ} (p : Plannable Ordering job t n)
    (alike : (i : ℕ) → Memᴰ i (count_from 1 n) → job i ≡ job' i) (posting : List ℕ) where
  abbrev g : Planning
  g = planning_in Ordering job t n

  abbrev g' : Planning
  g' = planning_in Ordering job' t n

  refused_same : (i j : ℕ) → (refusal : Refusal) → posting_tests (length g.left) posting ≡ Err refusal →
      result_of i (verdict_outcome g posting) ≡ result_of j (verdict_outcome g posting)
  unfolding result_of
  refused_same i j refusal e = rw (verdict_no g posting refusal e) refl

  pub same_result : result_of (idle_of job t posting) (verdict_outcome g posting) ≡
      result_of (idle_of job' t posting) (verdict_outcome g' posting)
  same_result =
      step (posting_tests (length g.left) posting) refl ∙ ap (result_of (idle_of job' t posting)) (same_judged p alike posting)
    where
      step : (r : Tested) → posting_tests (length g.left) posting ≡ r →
          result_of (idle_of job t posting) (verdict_outcome g posting) ≡ result_of (idle_of job' t posting) (verdict_outcome g posting)
      step (Err refusal) e = refused_same (idle_of job t posting) (idle_of job' t posting) refusal e
      step (Ok _) e =
          let o = posting_order p posting (subst (λ (m : ℕ). posting_tests m posting ≡ Ok tt) (length_count 1 n) e) in
          ap (λ (i : ℕ). result_of i (verdict_outcome g posting)) (idle_same job job' t posting (perm_all (λ i. job i ≡ job' i) o alike))

-- Of a book that is accepted: its rows can be planned, and the result of the columns is that of the day.
pub record Ready (book : List ℕ) (r : Given) : Type 0 where
  pub can_plan_lem : Plannable Ordering (jobs_of r.columns) r.free r.count
  pub is_result : (posting : List ℕ) →
      result_of (idle_of (jobs_of r.columns) r.free posting)
      (verdict_outcome (planning_in Ordering (jobs_of r.columns) r.free r.count) posting) ≡ day_result book posting

pub ready : (book : List ℕ) (x : Result Given Refusal) (r : Given) → Gives 0 (read_by month_terms book) x → x ≡ Ok r → Ready book r
ready book x r gives o =
    let d = given_passed 0 (read_by month_terms book) x r gives o in
    let can = plannable month_terms book r d.day d.contents d.free d.count d.columns in
    let alike = same month_terms book r d.day d.contents d.free d.count d.columns in
    record {
      can_plan_lem = can;
      is_result = λ posting.
          same_result can alike posting ∙
          ((λ x. result_of (idle_of (jobs 0 d.day) (d.free x) posting)
          (verdict_outcome (planning_in Ordering (jobs 0 d.day) (d.free x) (d.count x)) posting)) ∙
          sym (day_of_lem book posting d.day d.contents));
    }
