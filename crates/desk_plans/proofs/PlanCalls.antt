-- The list and an order on lent words: refused where no rows left can be planned there, otherwise what is planned; and that no row left
-- means no plan. Assumes nothing.
use Prim.Native.Nat.{ℕ, zero, suc}
use mathlib.Core.Bool.{true, false}
use mathlib.Core.Path.{◌≡◌, refl, ap, ◌∙◌}
use mathlib.Core.List.{List, []}
use mathlib.Core.Option.{none}
use Rattle.std.specs.Prelude.{Err}
use Rattle.schedule.specs.Desk.{Pair}
use Rattle.refusals.specs.Refusals.{by_range}
use Rattle.refusals.specs.Tests.{refusal_at}
use Rattle.outcomes.specs.Outcomes.{list_outcome, plan_outcome}
use Rattle.outcomes.specs.Planning.{gives, nth}
use Rattle.running.specs.Running.{Running, job_in}
use Rattle.running.specs.Words.{running}
use Rattle.rows_left.specs.Left.{plans_here}
use Rattle.desk_plans.specs.Plans.{plans_from, planning_left, desk_list_call, desk_plan_call}

module _ (ws b : List ℕ) where
  pub list_away : plans_here ws ≡ false → desk_list_call ws b ≡ gives (Err (refusal_at by_range 0)) b
  unfolding desk_list_call
  list_away e = rw (e, desk_list_call)

  pub list_here : plans_here ws ≡ true → desk_list_call ws b ≡ list_outcome (planning_left (running ws)) b
  unfolding desk_list_call
  list_here e = rw (e, desk_list_call)

  pub plan_away : (k : ℕ) → plans_here ws ≡ false → desk_plan_call ws k b ≡ gives (Err (refusal_at by_range 0)) b
  unfolding desk_plan_call
  plan_away k e = rw (e, desk_plan_call)

  pub plan_here : (k : ℕ) → plans_here ws ≡ true → desk_plan_call ws k b ≡ plan_outcome (planning_left (running ws)) k b
  unfolding desk_plan_call
  plan_here k e = rw (e, desk_plan_call)

-- With no row left there are no plans, and no plan has a number.
module _ (d : Running) (e : d.left ≡ []) where
  pub no_plans : (planning_left d).plans ≡ []
  unfolding plans_from
  no_plans = ap (plans_from (job_in d.rows) d.minute) e

  pub none_numbered : (k : ℕ) → nth (planning_left d).plans k ≡ none
  none_numbered k = ap (λ (ps : List Pair). nth ps k) no_plans ∙ nth_none k
    where
      nth_none : (k : ℕ) → nth {A = Pair} [] k ≡ none
      nth_none zero = unfold nth in refl
      nth_none (suc k) = unfold nth in refl
