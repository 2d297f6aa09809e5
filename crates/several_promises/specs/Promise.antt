-- Several desks, one overtime limit: what is promised of the call, for every opening, run of books, lengths, closing minutes, limit and
-- buffer. The proof is `several_desks_hold`, in proofs/Promise.antt. That the function does what is said here of its call is its contract
-- (several/src). Rests on: Table, choices of orders (overtime).
use Rattle.std.specs.Prelude.{ℕ, ◌*◌, ◌≤◌, ◌<◌, ◌≡◌, ◌↔◌, ◌⊎◌, length, get_or, ℤ, ◌≤ℤ◌}
use mathlib.Core.List.{List, [], flatten}
use Rattle.std.proofs.Math.Option.{some}
use Rattle.schedule.specs.Limits.{latest_book_end}
use Rattle.schedule.specs.Rows.{Day}
use Rattle.schedule.specs.Desk.{Pair}
use Rattle.refusals.specs.Refusals.{by_overtime}
use Rattle.results.specs.Results.{written}
use Rattle.outcomes.specs.Planning.{Outcome, gives, nth, Planning}
use Rattle.calls.specs.Planned.{planned}
use Rattle.readers.specs.Reads.{ordering_rule}
use Rattle.promises.specs.Promise.{Lent}
use Rattle.overtime.specs.Choices.{overtimes, greatest_late}
use Rattle.overtime.specs.Best.{Measures, ChoiceOf, pairs_by, KeepLimit}
use Rattle.several_books.specs.Days.{rows_of, no_day}
use Rattle.several.specs.Answers.{SaidOfDesks, said_chosen, said_no_at}
use Rattle.several.specs.Calls.{desks_of}
use Rattle.several_promises.specs.Table.{several, RefusesAt, TakesAll, Right, SeveralTurned}

-- # The best choice
-- `KeepLimit orders`: an order of its rows for each desk, listed or not, whose overtimes add up to at most the limit. `pairs_by`: the end
-- and the worst lateness that each of them comes to.
module _ (limit : ℕ) (closings : List ℕ) (desks : List Planning) where
  -- The orders keep the limit, and whatever orders of the desks keep it, the greatest of their latenesses is no smaller.
  pub record BestOrders (orders : List (List ℕ)) : Type 0 where
    pub kept : KeepLimit limit closings desks orders
    pub least : (others : List (List ℕ)) → KeepLimit limit closings desks others →
        greatest_late (pairs_by desks orders) ≤ℤ greatest_late (pairs_by desks others)

-- Which of the best: each desk takes the order of its first listed plan whose worst lateness is at most y.
pub record FirstListed (desk : Planning) (y : ℤ) (order : List ℕ) : Type 0 where
  pub number : ℕ
  pub plan : Pair
  pub is_listed : nth desk.plans number ≡ some plan
  pub within : plan.late ≤ℤ y
  pub none_before : (k : ℕ) (p : Pair) → k < number → nth desk.plans k ≡ some p → ¬ (p.late ≤ℤ y)
  pub its_order : desk.orders plan.late ≡ some order

-- What the call gives of days with room for all their rows. Either best orders, desk after desk; it tells their greatest lateness and
-- the sum of their overtimes. Or it is refused as overtime, and no orders of the desks keep the limit.
pub data Answered (opening : ℕ) (closings : List ℕ) (limit : ℕ) (b : List ℕ) (ds : List Day) (o : Outcome SaidOfDesks) : Type 0 where
  chosen : (orders : List (List ℕ)) → BestOrders limit closings (desks_of opening ds) orders →
      ((e : ℕ) → e < length ds → FirstListed (planned (ordering_rule opening) (get_or ds e no_day))
      (greatest_late (pairs_by (desks_of opening ds) orders)) (get_or orders e [])) →
      o ≡ gives
      (said_chosen (greatest_late (pairs_by (desks_of opening ds) orders)) (overtimes closings (pairs_by (desks_of opening ds) orders)))
      (written (flatten orders) b) →
      Answered opening closings limit b ds o
  unkept : ((orders : List (List ℕ)) → ¬ KeepLimit limit closings (desks_of opening ds) orders) → o ≡ gives (said_no_at by_overtime 0 0) b →
      Answered opening closings limit b ds o

-- # What is promised
pub record SeveralPromise : Type 0 where
  -- Overtime is how far an end passes closing, or 0; overtimes add up; the greatest lateness is one of them, and none is greater.
  pub measures : Measures
  -- A refused call returns one of these numbers, and the buffer holds what it held; no call makes it longer or shorter.
  pub memory : (opening : ℕ) (books lengths closings : List ℕ) (limit : ℕ) (b : List ℕ) →
      let o = several opening books lengths closings limit b in
      Lent (λ n. ((1 ≤ n) × (n ≤ 9)) ⊎ (n ≡ by_overtime)) b (gives o.answer.said o.buffer)
  -- It is refused n at p, at desk d, exactly if the condition holds and no earlier one does.
  pub refused : (opening : ℕ) (books lengths closings : List ℕ) (limit : ℕ) (b : List ℕ) (n p d : ℕ) →
      RefusesAt (several opening books lengths closings limit b).answer n p d ↔
      SeveralTurned opening books lengths closings limit b n p d
  -- Otherwise, and where it is refused as overtime, it is answered so.
  pub answered : (opening : ℕ) (books lengths closings : List ℕ) (limit : ℕ) (b : List ℕ) (ds : List Day) →
      Right opening books lengths closings limit b → TakesAll opening books lengths ds → rows_of ds ≤ length b →
      Answered opening closings limit b ds (several opening books lengths closings limit b)
  -- Whatever orders the desks take, their overtimes add up to at most 17,687,680 for each desk: so the largest limit is always kept.
  pub most_overtime : (opening : ℕ) (books lengths closings : List ℕ) (ds : List Day) → TakesAll opening books lengths ds →
      (orders : List (List ℕ)) → ChoiceOf (desks_of opening ds) orders →
      overtimes closings (pairs_by (desks_of opening ds) orders) ≤ latest_book_end * length ds
