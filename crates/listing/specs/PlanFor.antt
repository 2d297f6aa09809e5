-- Answers for a bound: of a desk, and of an order, the desk after it. Latenesses and bounds are raised by 2³¹.
-- Rests on: the search's order for a raised bound.
use Rattle.std.specs.Prelude.{ℕ, ◌≤◌, cond, ◌≡◌, List, leb, Some, None}
use Rattle.std.specs.Prelude as prelude
use Rattle.std.proofs.Math.Option.{Option, none, some}
use Rattle.theory.specs.Jobs.{Job}
use Rattle.schedule.specs.Limits.{latest_raised}
use Rattle.schedule.specs.declared.Desk.{Desk}
use Rattle.schedule.specs.Desk.{end_of, pair_of}
use Rattle.schedule.specs.Offset.{raised}
use Rattle.search.specs.Searched.{order_at_raised}

-- The answer for a bound: the desk after the order that keeps it, if one does.
abbrev pub Planned : Type 0
Planned = prelude.Option Desk

-- A raised lateness is at least 1, at most the bound, and at most the latest, raised.
abbrev pub Bounded : ℕ → Planned → Type 0
Bounded bound None = Unit {0}
Bounded bound (Some desk) = (1 ≤ desk.worst) × (desk.worst ≤ bound) × (desk.worst ≤ latest_raised)

-- What a desk answers for a bound: itself, where its worst lateness is within the bound.
unfoldable pub answer_of : Desk → ℕ → Planned
answer_of d bound = cond (leb d.worst bound) (Some d) None

module _ (job : ℕ → Job) where
  -- The answer for an order: the desk after it, at its own end and worst lateness.
  unfoldable pub planned_of : ℕ → Option (List ℕ) → Planned
  planned_of free none = None
  planned_of free (some order) = Some (record { minute = end_of job free order; worst = raised (pair_of job free order).late })

-- An answer for a bound: the desk after the order for it, of the rows 1 to n.
pub record Paired (job : ℕ → Job) (n free bound : ℕ) (answer : Planned) : Type 0 where
  pub answered : answer ≡ planned_of job free (order_at_raised job n free bound)
  pub bounded : Bounded bound answer
