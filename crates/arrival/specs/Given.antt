-- Answers of rows as they are: an order with the desk after it, the desk after a posting, and the one plan by arrival.
-- Latenesses and bounds are raised by 2³¹.
-- (The list's outcome is `HoldsPlans`, beside the list itself.) Rests on: the search's answers, and the schedule's arrival.
use Rattle.std.specs.Prelude.{ℕ, ◌≤◌, ◌≡◌, List, ◌++◌, length, take, drop}
use Rattle.std.proofs.Math.Option.{Option, none, some}
use Rattle.theory.specs.Jobs.{Job}
use Rattle.schedule.specs.Limits.{latest_raised, row_places}
use Rattle.schedule.specs.declared.Desk.{Desk}
use Rattle.schedule.specs.Rows.{count_from}
use Rattle.schedule.specs.Desk.{end_of, pair_of}
use Rattle.schedule.specs.Arrival.{by_arrival}
use Rattle.schedule.specs.Offset.{raised, desk_at}
use Rattle.arrival.specs.declared.Plan.{Plan}
use Rattle.search.specs.Taking.{desk_through}
use Rattle.listing.specs.PlanFor.{Bounded, Planned, planned_of}

-- The buffer b with an order written to its front.
unfoldable pub written_of : Option (List ℕ) → List ℕ → List ℕ
written_of none b = b
written_of (some order) b = order ++ drop (length order) b

module _ (job : ℕ → Job) (free : ℕ) where
  -- The whole outcome of the call for an order, where o is the order for the bound, or none: the answer, and the buffer b as it is then.
  pub record OrderGiven (o : Option (List ℕ)) (bound : ℕ) (b : List ℕ) (answer : Planned) (after : List ℕ) : Type 0 where
    pub answered : answer ≡ planned_of job free o
    pub buffer : after ≡ written_of o b
    pub bounded : Bounded bound answer

  -- The whole outcome of following a posting: the desk after its rows in turn, and of at least one row the order's pair.
  pub record Followed (posting : List ℕ) (r : Desk) : Type 0 where
    pub desk : r ≡ desk_through job (desk_at free) posting
    pub end : r.minute ≡ end_of job free posting
    pub late : 1 ≤ length posting → r.worst ≡ raised (pair_of job free posting).late
    pub low : 1 ≤ length posting → 1 ≤ r.worst
    pub high : r.worst ≤ latest_raised

  -- The one plan by arrival: the first n places of its order hold the rows 1 to n by arrival, and its desk follows them.
  pub record Arrived (n : ℕ) (plan : Plan) : Type 0 where
    pub places : length plan.order ≡ row_places
    pub rows : take n plan.order ≡ by_arrival job (count_from 1 n)
    pub after : Followed (by_arrival job (count_from 1 n)) plan.desk
