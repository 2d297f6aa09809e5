-- Several desks: what a choice of orders is and comes to, and what is promised of the one that is made. The proof of `SeveralDesks` is
-- `several_desks`, in proofs/Best.antt. Rests on: Choices, the schedule's cover.
use Rattle.std.specs.Prelude.{ℕ, ◌+◌, ◌≤◌, ◌<◌, ◌≡◌, ◌↔◌, length, ◌≤ℤ◌}
use mathlib.Core.List.{List, [], ◌∷◌, Memᴰ}
use Rattle.std.proofs.Math.Option.{none, some}
use Rattle.schedule.specs.Desk.{Pair, OrderOf, pair_of}
use Rattle.schedule.specs.Plans.{plans}
use Rattle.schedule.specs.Cover.{PlansPromise}
use Rattle.outcomes.specs.Planning.{Planning}
use Rattle.overtime.specs.Choices.{overtime, overtimes, greatest_late, first_plans, plan_orders, lists_of, Chosen, best_choice}

-- Overtime is how far an end passes closing, or 0, and overtimes add up. The greatest of some latenesses is one of them, and none is
-- greater.
pub record Measures : Type 0 where
  pub no_overtime : (end closing : ℕ) → end ≤ closing → overtime end closing ≡ 0
  pub some_overtime : (end closing : ℕ) → closing ≤ end → closing + overtime end closing ≡ end
  pub added : (c : ℕ) (cs : List ℕ) (p : Pair) (ps : List Pair) → overtimes (c ∷ cs) (p ∷ ps) ≡ overtime p.end c + overtimes cs ps
  pub greatest_one : (ps : List Pair) → 1 ≤ length ps → (p : Pair) × Memᴰ p ps × (p.late ≡ greatest_late ps)
  pub greatest_all : (ps : List Pair) (p : Pair) → Memᴰ p ps → p.late ≤ℤ greatest_late ps

-- A choice: an order of its rows for each desk; and the pairs that they come to.
abbrev pub ChoiceOf : List Planning → (orders : List (List ℕ)) → Type 0
ChoiceOf [] [] = Unit {0}
ChoiceOf [] (o ∷ os) = ⊥
ChoiceOf (d ∷ ds) [] = ⊥
ChoiceOf (d ∷ ds) (o ∷ os) = OrderOf d.left o × ChoiceOf ds os

unfoldable pub pairs_by : List Planning → (orders : List (List ℕ)) → List Pair
pairs_by [] os = []
pairs_by (d ∷ ds) [] = []
pairs_by (d ∷ ds) (o ∷ os) = pair_of d.job d.minute o ∷ pairs_by ds os

-- Its list is the list by its definition, and its orders for a bound are best.
abbrev pub HasPromise : Planning → Type 0
HasPromise d = (d.plans ≡ plans d.job d.minute d.left) × PlansPromise d.job d.minute d.left d.orders

module _ (limit : ℕ) (closings : List ℕ) (desks : List Planning) where
  -- A choice whose overtimes add up to at most the limit.
  abbrev pub KeepLimit : (orders : List (List ℕ)) → Type 0
  KeepLimit orders = ChoiceOf desks orders × (overtimes closings (pairs_by desks orders) ≤ limit)

  pub record Best (a : Chosen) : Type 0 where
    -- The orders keep the limit; the overtimes and the greatest lateness are theirs ..
    pub kept : KeepLimit a.orders
    pub overtime : overtimes closings (pairs_by desks a.orders) ≡ a.overtime
    pub late : greatest_late (pairs_by desks a.orders) ≡ a.late
    -- .. and no choice of orders that keeps the limit, listed or not, has a smaller greatest lateness.
    pub least : (others : List (List ℕ)) → KeepLimit others → a.late ≤ℤ greatest_late (pairs_by desks others)
    -- Each desk takes its first listed plan whose worst lateness is at most that, and the order of that plan.
    pub first : first_plans a.late (lists_of desks) ≡ some (pairs_by desks a.orders)
    pub ordered : plan_orders desks (pairs_by desks a.orders) ≡ a.orders

  pub record DesksPromise : Type 0 where
    pub best : (a : Chosen) → best_choice limit closings desks ≡ some a → Best a
    -- There is no answer exactly if no choice of orders keeps the limit.
    pub none_keep : (best_choice limit closings desks ≡ none) ↔ ((orders : List (List ℕ)) → ¬ KeepLimit orders)

-- For one desk or more, a closing minute for each.
abbrev pub SeveralDesks : Type 0
SeveralDesks = (limit : ℕ) (closings : List ℕ) (desks : List Planning) → length closings ≡ length desks → 0 < length desks →
    ((d : Planning) → Memᴰ d desks → HasPromise d) → DesksPromise limit closings desks
