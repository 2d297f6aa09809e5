-- The calls by first come, first due (`first_come`): what holds of them beside the three properties (promises/specs/Promise): they have one
-- plan, and it is best among all orders. The proofs are `lent_memory`, `definitions_hold`, `cover_holds` and `one_plan_holds`, in
-- proofs/Promise.antt. The contract of each offered function says that its answer and its buffer at exit are those of its call by these
-- terms, whatever it is lent and told. Rests on: the promises' Vocabulary, the schedule's Arrival.
use Rattle.std.specs.Prelude.{ℕ, ◌≤◌, ◌≡◌, List, [], ◌∷◌, ◌≤ℤ◌}
use Rattle.schedule.specs.declared.Profile.TheVariants.{Ordering, FirstCome}
use Rattle.schedule.specs.Rows.{job, Day, jobs, row_numbers}
use Rattle.schedule.specs.Desk.{Pair, OrderOf, pair_of}
use Rattle.schedule.specs.Plans.{plans}
use Rattle.schedule.specs.Arrival.{by_arrival, InArrival}
use Rattle.readers.specs.Reads.{ordering_rule, first_come}
use Rattle.promises.specs.Vocabulary.{list, Accepts, Takes}

-- All rows of a day by release, then due, then row, whatever the opening; and the pair of this order from the free minute on.
abbrev pub arrival_order : Day → List ℕ
arrival_order day = by_arrival (job day.rows) (row_numbers day)

module _ (opening : ℕ) (day : Day) where
  abbrev pub arrival_plan : Pair
  arrival_plan = pair_of (jobs opening day) day.free (arrival_order day)

  -- Of the rows of a book that the calls take:
  pub record OnePlan : Type 0 where
    -- the order has every one of them once,
    pub whole : OrderOf (row_numbers day) (arrival_order day)
    -- from each row to all after it by release, then due, then row;
    pub sorted : InArrival (job day.rows) (arrival_order day)
    -- it ends no later and is no later at worst than every order of the rows;
    pub least : (order : List ℕ) → OrderOf (row_numbers day) order →
        (arrival_plan.end ≤ (pair_of (jobs opening day) day.free order).end) ×
        (arrival_plan.late ≤ℤ (pair_of (jobs opening day) day.free order).late)
    -- so the list by its definition, the pairs that some order attains and no order beats, is its pair alone.
    pub one_plan : plans (jobs opening day) day.free (row_numbers day) ≡ arrival_plan ∷ []

pub record OnePlanHolds : Type 0 where
  pub one_plan : (opening : ℕ) (book : List ℕ) (day : Day) → Takes (first_come opening) book day → OnePlan opening day
  -- A book that both profiles accept has the same free minute and rows by both, and with one opening the same list.
  pub same_day : (book : List ℕ) (day other : Day) → Accepts FirstCome book day → Accepts Ordering book other → day ≡ other
  pub same_list : (opening : ℕ) (book : List ℕ) (day : Day) → Takes (first_come opening) book day → Takes (ordering_rule opening) book day →
      (b : List ℕ) → list (first_come opening) book b ≡ list (ordering_rule opening) book b
