-- The list and the order of a listed plan on a lent desk: the whole outcome of each call. A run that holds no desk whose rows left can be
-- planned is refused 3 at 0; then 11, 9. Rests on: the running desk and its words, the rows left, what a call gives (outcomes).
use Rattle.std.specs.Prelude.{ℕ, true, false, List, [], ◌∷◌, Err}
use Rattle.theory.specs.Jobs.{Job}
use Rattle.schedule.specs.Desk.{Pair}
use Rattle.schedule.specs.Picks.{order_for}
use Rattle.schedule.specs.Plans.{plans}
use Rattle.refusals.specs.Refusals.{by_range}
use Rattle.refusals.specs.Tests.{refusal_at}
use Rattle.outcomes.specs.Planning.{Outcome, gives, Planning}
use Rattle.outcomes.specs.Outcomes.{list_outcome, plan_outcome, ListAnswer, OrderAnswer}
use Rattle.running.specs.Running.{Running, job_in}
use Rattle.running.specs.Words.{running}
use Rattle.rows_left.specs.Left.{plans_here}

-- The plans of rows from a minute on; of no rows there are none.
unfoldable pub plans_from : (ℕ → Job) → ℕ → List ℕ → List Pair
plans_from job t [] = []
plans_from job t (i ∷ is) = plans job t (i ∷ is)

-- What is planned on a running desk: the rows left, under their own numbers, from the desk's minute on. Latenesses are theirs alone.
abbrev pub planning_left : Running → Planning
planning_left d = record {
  job = job_in d.rows;
  minute = d.minute;
  left = d.left;
  plans = plans_from (job_in d.rows) d.minute d.left;
  orders = order_for (job_in d.rows) d.minute d.left;
}

unfoldable pub desk_list_call : (desk buffer : List ℕ) → Outcome ListAnswer
desk_list_call ws b = elim (plans_here ws) [
  | false ↦ gives (Err (refusal_at by_range 0)) b
  | true ↦ list_outcome (planning_left (running ws)) b
]

unfoldable pub desk_plan_call : (desk : List ℕ) → (k : ℕ) → (buffer : List ℕ) → Outcome OrderAnswer
desk_plan_call ws k b = elim (plans_here ws) [
  | false ↦ gives (Err (refusal_at by_range 0)) b
  | true ↦ plan_outcome (planning_left (running ws)) k b
]

-- Opens every definition of this file: name it on an `unfolding` line where all is to be computed.
unfoldable pub open_desk_plans : Unit {0}
unfolding plans_from desk_list_call desk_plan_call
open_desk_plans = tt
