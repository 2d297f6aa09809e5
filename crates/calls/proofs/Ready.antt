-- What a caller knows of what a book gave: the refusal, or that it can be planned, and that the calls on the columns are the calls on the
-- book. Assumes nothing.
use Prim.Native.Nat.{ℕ}
use native.Mathlib.Omega.{arith}
use mathlib.Core.Path.{◌≡◌, sym, ◌∙◌, subst}
use mathlib.Core.List.{List, Memᴰ}
use lib.ListN.{length}
use lib.IntN.{ℤ}
use Rattle.std.specs.Prelude.{Result, Ok}
use Rattle.theory.specs.Jobs.{Job}
use Rattle.schedule.specs.Limits.{latest_minute, longest_time, latest_due}
use Rattle.schedule.specs.Rows.{count_from, Day, jobs}
use Rattle.schedule.specs.Profiles.{Obeys}
use Rattle.schedule.proofs.Numbers.{count_range}
use Rattle.schedule.proofs.SameJobs.{same_rule}
use Rattle.refusals.specs.declared.Refusal.{Refusal}
use Rattle.book.specs.Rows.{accepted}
use Rattle.rows.specs.InColumns.{jobs_of, InColumns}
use Rattle.readers.specs.declared.Terms.{Terms}
use Rattle.readers.specs.declared.Given.{Given}
use Rattle.readers.specs.Reads.{read_by, Gives}
use Rattle.readers.specs.Accepted.{AcceptedDay}
use Rattle.readers.proofs.Accepted.{accepted_day}
use Rattle.readers.proofs.Readings.{given_passed}
use Rattle.outcomes.specs.Outcomes.{list_outcome, order_outcome, plan_outcome, verdict_outcome}
use Rattle.outcomes.specs.Planning.{Planning, planning_in}
use Rattle.outcomes.specs.Plannable.{Plannable}
use Rattle.outcomes.proofs.Columns.{same_listed, same_ordered, same_planned, same_judged}
use Rattle.calls.specs.Calls.{list_call, bound_call, plan_call, verdict_call}
use Rattle.calls.proofs.CallLaws.{list_of, bound_of, plan_of, verdict_of}

-- What is planned of what a book gave.
abbrev pub planning_by : Terms → Given → Planning
planning_by terms r = planning_in terms.profile (jobs_of r.columns) r.free r.count

pub record Ready (terms : Terms) (book : List ℕ) (r : Given) : Type 0 where
  pub plannable : Plannable terms.profile (jobs_of r.columns) r.free r.count
  pub list : (b : List ℕ) → list_outcome (planning_by terms r) b ≡ list_call terms book b
  pub bound : (y : ℤ) (b : List ℕ) → order_outcome (planning_by terms r) y b ≡ bound_call terms book y b
  pub plan : (k : ℕ) (b : List ℕ) → plan_outcome (planning_by terms r) k b ≡ plan_call terms book k b
  pub verdict : (posting : List ℕ) → verdict_outcome (planning_by terms r) posting ≡ verdict_call terms book posting

module _ (terms : Terms) (book : List ℕ) (r : Given) (day : Day) (reads : read_by terms book ≡ accepted day) (free : r.free ≡ day.free)
    (count : r.count ≡ length day.rows)
    (columns : InColumns (jobs terms.opening day) (length day.rows) r.columns) where
  abbrev job : ℕ → Job
  job = jobs_of r.columns

  abbrev seen : ℕ → Job
  seen = jobs terms.opening day

  a : AcceptedDay terms day
  a = accepted_day terms book day reads

  pub same : (i : ℕ) → Memᴰ i (count_from 1 r.count) → job i ≡ seen i
  same i m = let c = count_range 1 r.count m in columns.jobs i c.0 (omega arith)

  pub plannable : Plannable terms.profile job r.free r.count
  plannable =
      let within = columns.within latest_minute longest_time latest_due
      (λ i h k. let l = a.limits i in (l.0, omega (arith, l.1, a.opening), l.2)) in
      let rule : Obeys terms.profile seen (count_from 1 r.count) =
      subst (λ (n : ℕ). Obeys terms.profile seen (count_from 1 n)) (sym count) a.rule in
      record {
        limits = record { releases = λ i. (within i).0; lengths = λ i. omega (arith, (within i).1); dues = λ i. (within i).2 };
        low = omega (arith, a.some_row);
        few = omega (arith, a.few_rows);
        early = omega (arith, a.early, a.few_rows);
        rule = same_rule seen job r.count (λ i m. sym (same i m)) terms.profile rule;
      }

  pub ready_of : Ready terms book r
  ready_of = record {
    plannable = plannable;
    list = λ b.
        same_listed plannable same b ∙ (λ x. list_outcome (planning_in terms.profile seen (free x) (count x)) b) ∙
        sym (list_of terms book day reads b);
    bound = λ y b.
        same_ordered plannable same y b ∙ (λ x. order_outcome (planning_in terms.profile seen (free x) (count x)) y b) ∙
        sym (bound_of terms book day reads y b);
    plan = λ k b.
        same_planned plannable same k b ∙ (λ x. plan_outcome (planning_in terms.profile seen (free x) (count x)) k b) ∙
        sym (plan_of terms book day reads k b);
    verdict = λ posting.
        same_judged plannable same posting ∙ (λ x. verdict_outcome (planning_in terms.profile seen (free x) (count x)) posting) ∙
        sym (verdict_of terms book day reads posting);
  }

pub ready : (terms : Terms) (book : List ℕ) (r : Result Given Refusal) (given : Given) →
    Gives terms.opening (read_by terms book) r → r ≡ Ok given → Ready terms book given
ready terms book r given g e =
    let d = given_passed terms.opening (read_by terms book) r given g e in
    ready_of terms book given d.day d.contents d.free d.count d.columns
