-- What the halving of the minutes finds, and what is given of the latest free minute with its order, of rows in columns. Latenesses,
-- bounds and the wanted end are raised by 2³¹. Rests on: how late the desk can open, the search for the order for a bound, the order that
-- is written to a buffer.
use Rattle.std.specs.Prelude.{ℕ, suc, ◌≤◌, ◌<◌, Bool, true, false, ◌≡◌, List, Some, None}
use Rattle.std.specs.Prelude.{Option as Found}
use Rattle.std.proofs.Math.Option.{Option, none, some}
use Rattle.theory.specs.Jobs.{Job}
use Rattle.schedule.specs.Limits.{latest_minute}
use Rattle.schedule.specs.declared.Desk.{Desk}
use Rattle.schedule.specs.Rows.{count_from}
use Rattle.schedule.specs.Desk.{end_of, pair_of}
use Rattle.schedule.specs.Offset.{raised, lowered}
use Rattle.picks.specs.declared.Standing.{Standing}
use Rattle.search.specs.Searched.{Searched}
use Rattle.arrival.specs.Given.{written_of}
use Rattle.how_late.specs.Latest.{OrderFrom}
use Rattle.how_late.specs.Laws.{in_time}
use Rattle.latest_search.specs.declared.Latest.{Latest}
use Rattle.latest_search.specs.declared.Halving.{Halving}

module _ (job : ℕ → Job) (n end bound : ℕ) where
  -- The order for the bound from the minute t ends by the wanted end.
  abbrev pub in_time_at : ℕ → Bool
  in_time_at t = in_time job (count_from 1 n) (lowered end) (lowered bound) t

  -- The search from the minute t found the order, which ends in time, and the desk stands after it.
  pub record Reached (t : ℕ) (desk : Desk) (order : List ℕ) : Type 0 where
    pub standing : Standing
    pub searched : Searched job n t bound standing order
    pub after : desk ≡ standing.desk
    pub kept : standing.desk.worst ≤ bound
    pub kept_in_time : in_time_at t ≡ true

  -- The minute found is in time, and the next, if there is one, is not.
  pub record HalvedAt (r : Halving) : Type 0 where
    pub within : r.minute ≤ latest_minute
    pub reached : Reached r.minute r.desk r.order
    pub next : r.minute < latest_minute → in_time_at (suc r.minute) ≡ false

  -- Not even minute 0 is in time; or what the minute found is.
  abbrev pub Halved : Found Halving → Type 0
  Halved None = in_time_at 0 ≡ false
  Halved (Some r) = HalvedAt r

-- What is answered of a minute with an order, and the order that is written.
unfoldable pub latest_of : (ℕ → Job) → Option OrderFrom → Found Latest
latest_of job none = None
latest_of job (some s) =
    Some (record { minute = s.minute; end = end_of job s.minute s.order; late = raised (pair_of job s.minute s.order).late })

unfoldable pub order_of : Option OrderFrom → Option (List ℕ)
order_of none = none
order_of (some s) = some s.order

-- The whole outcome of the search for the latest free minute.
pub record LatestGiven (job : ℕ → Job) (o : Option OrderFrom) (b : List ℕ) (answer : Found Latest) (after : List ℕ) : Type 0 where
  pub answered : answer ≡ latest_of job o
  pub buffer : after ≡ written_of (order_of o) b
