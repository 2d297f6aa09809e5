-- Several desks, one overtime limit: overtimes, and the plans and orders that are chosen. A desk is what is planned at it (`Planning`);
-- its list of plans, its closing minute and its order stand at the same place of their lists. What a choice is, and that this one is best,
-- is said in Best.
-- Rests on: the schedule's pairs, what is planned (outcomes).
use Rattle.std.specs.Prelude.{ℕ, ◌+◌, ◌-◌, Bool, false, cond, List, [], ◌∷◌, ◌++◌, map, leb, ℤ}
use Rattle.std.proofs.Math.Option.{Option, none, some}
use Rattle.std.specs.Int.Signed.{le_z}
use Rattle.schedule.specs.Desk.{Pair, worst_of}
use Rattle.outcomes.specs.Planning.{Planning}

-- Overtime: how far an end passes closing, or 0. And the overtimes of a pair for each desk, added up.
abbrev pub overtime : (end closing : ℕ) → ℕ
overtime end closing = end - closing

unfoldable pub overtimes : (closings : List ℕ) → List Pair → ℕ
overtimes [] ps = 0
overtimes (c ∷ cs) [] = 0
overtimes (c ∷ cs) (p ∷ ps) = overtime p.end c + overtimes cs ps

-- The latenesses of some pairs, and the greatest of them.
abbrev pub lates : List Pair → List ℤ
lates ps = map (λ (p : Pair). p.late) ps

abbrev pub greatest_late : List Pair → ℤ
greatest_late ps = worst_of (lates ps)

-- The first listed plan whose worst lateness is at most y; and that of each list, none where a list has none.
unfoldable pub first_within : ℤ → List Pair → Option Pair
first_within y [] = none
first_within y (p ∷ ps) = cond (le_z p.late y) (some p) (first_within y ps)

abbrev pub in_front : Option Pair → Option (List Pair) → Option (List Pair)
in_front none rest = none
in_front (some p) none = none
in_front (some p) (some ps) = some (p ∷ ps)

unfoldable pub first_plans : ℤ → (lists : List (List Pair)) → Option (List Pair)
first_plans y [] = some []
first_plans y (l ∷ ls) = in_front (first_within y l) (first_plans y ls)

-- The overtimes of these plans add up to at most the limit.
abbrev pub keeps_limit : (limit : ℕ) (closings : List ℕ) → Option (List Pair) → Bool
keeps_limit limit closings none = false
keeps_limit limit closings (some ps) = leb (overtimes closings ps) limit

-- The least of some numbers that passes a test.
abbrev pub lesser : ℤ → Option ℤ → ℤ
lesser y none = y
lesser y (some z) = cond (le_z y z) y z

unfoldable pub least_that : (ℤ → Bool) → List ℤ → Option ℤ
least_that test [] = none
least_that test (y ∷ ys) = cond (test y) (some (lesser y (least_that test ys))) (least_that test ys)

-- The latenesses listed at some desk.
unfoldable pub listed_lates : (lists : List (List Pair)) → List ℤ
listed_lates [] = []
listed_lates (l ∷ ls) = lates l ++ listed_lates ls

-- The plans that are chosen: of the least listed lateness y at which each list's first plan within y keeps the limit, that lateness and
-- these plans; none where there is no such lateness.
pub record LeastPlans : Type 0 where
  pub late : ℤ
  pub plans : List Pair

abbrev pub least_at : ℤ → Option (List Pair) → Option LeastPlans
least_at y none = none
least_at y (some ps) = some (record { late = y; plans = ps })

abbrev pub least_for : (lists : List (List Pair)) → Option ℤ → Option LeastPlans
least_for lists none = none
least_for lists (some y) = least_at y (first_plans y lists)

unfoldable pub best_plans : (limit : ℕ) (closings : List ℕ) (lists : List (List Pair)) → Option LeastPlans
best_plans limit closings lists = least_for lists (least_that (λ y. keeps_limit limit closings (first_plans y lists)) (listed_lates lists))

-- The order of each desk's plan: the order for the bound equal to its own lateness.
abbrev pub or_empty : Option (List ℕ) → List ℕ
or_empty none = []
or_empty (some order) = order

unfoldable pub plan_orders : List Planning → List Pair → List (List ℕ)
plan_orders [] ps = []
plan_orders (d ∷ ds) [] = []
plan_orders (d ∷ ds) (p ∷ ps) = or_empty (d.orders p.late) ∷ plan_orders ds ps

-- What is answered: the least lateness, the sum of the overtimes, and the orders desk after desk.
pub record Chosen : Type 0 where
  pub late : ℤ
  pub overtime : ℕ
  pub orders : List (List ℕ)

abbrev pub lists_of : List Planning → List (List Pair)
lists_of desks = map (λ (d : Planning). d.plans) desks

abbrev pub chosen_from : (closings : List ℕ) → List Planning → Option LeastPlans → Option Chosen
chosen_from closings desks none = none
chosen_from closings desks (some w) =
    some (record { late = w.late; overtime = overtimes closings w.plans; orders = plan_orders desks w.plans })

unfoldable pub best_choice : (limit : ℕ) (closings : List ℕ) → List Planning → Option Chosen
best_choice limit closings desks = chosen_from closings desks (best_plans limit closings (lists_of desks))

-- Opens every definition of this file: name it on an `unfolding` line where all is to be computed.
unfoldable pub open_choices : Unit {0}
unfolding overtimes first_within first_plans least_that listed_lates best_plans plan_orders best_choice
open_choices = tt
