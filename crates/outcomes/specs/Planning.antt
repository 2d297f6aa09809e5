-- What a call gives, and what is planned.
-- Rests on: the rows of a table, the profiles.
use Rattle.std.specs.Prelude.{ℕ, zero, suc, List, length, ℤ}
use Rattle.std.proofs.Math.Option.{Option, none}
use Rattle.std.proofs.Math.ListN.{get_elem?}
use Rattle.theory.specs.Jobs.{Job}
use Rattle.schedule.specs.declared.Profile.{Profile}
use Rattle.schedule.specs.Rows.{count_from, Day, jobs}
use Rattle.schedule.specs.Desk.{Pair}
use Rattle.schedule.specs.Profiles.{plans_by, order_by}

-- What a call gives: its answer, and the result buffer after it.
pub record Outcome (A : Type 0) : Type 0 where
  pub answer : A
  pub buffer : List ℕ

abbrev pub gives : {A : Type 0} → A → List ℕ → Outcome A
gives a b = record { answer = a; buffer = b }

-- The k-th of a list, counted from 1.
unfoldable pub nth {ℓ} : {A : Type ℓ} → List A → ℕ → Option A
nth xs zero = none
nth xs (suc k) = get_elem? xs k

-- What is planned: what planning sees of each row number, the desk's minute, the rows left, and their list of plans and order for a bound.
pub record Planning : Type 0 where
  pub job : ℕ → Job
  pub minute : ℕ
  pub left : List ℕ
  pub plans : List Pair
  pub orders : ℤ → Option (List ℕ)

-- The rows 1 to n from the minute t on, by a profile; and the rows of a day from its free minute on, each with so many opening minutes.
abbrev pub planning_in : Profile → (ℕ → Job) → (t n : ℕ) → Planning
planning_in profile job t n = record {
  job = job;
  minute = t;
  left = count_from 1 n;
  plans = plans_by profile job t (count_from 1 n);
  orders = order_by profile job t (count_from 1 n);
}

abbrev pub planning_of : Profile → (opening : ℕ) → Day → Planning
planning_of profile opening day = planning_in profile (jobs opening day) day.free (length day.rows)
