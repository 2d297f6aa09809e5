-- How late the desk can open: the latest free minute from which some order of the rows keeps both a wanted end and a wanted worst lateness,
-- and the order for that lateness from it. `job` says of each row number what planning sees of the row, `left` the rows; the wanted end
-- and lateness are any signed numbers. Rests on: the schedule's Limits, Desk, Picks, Plans.
use Rattle.std.specs.Prelude.{ℕ, zero, suc, ◌≤◌, Bool, false, cond, ◌&&◌, ◌||◌, List, [], ◌∷◌, ◌↔◌, ℤ, pos, ◌≤ℤ◌}
use Rattle.std.proofs.Math.Option.{Option, none, some}
use Rattle.std.specs.Int.Signed.{le_z}
use Rattle.theory.specs.Jobs.{Job}
use Rattle.schedule.specs.Limits.{latest_minute}
use Rattle.schedule.specs.Desk.{Pair, OrderOf, end_of, pair_of}
use Rattle.schedule.specs.Picks.{order_for}
use Rattle.schedule.specs.Plans.{attained}

-- Both numbers of a pair are at most the wanted ones; and so of some pair of a list.
unfoldable pub meets : (end late : ℤ) → Pair → Bool
meets end late p = le_z (pos p.end) end && le_z p.late late

unfoldable pub some_meets : (end late : ℤ) → List Pair → Bool
some_meets end late [] = false
some_meets end late (p ∷ ps) = meets end late p || some_meets end late ps

-- The greatest number from 0 to n that passes a test. None, where none does.
unfoldable pub greatest : (ℕ → Bool) → (n : ℕ) → Option ℕ
greatest test zero = cond (test 0) (some 0) none
greatest test (suc n) = cond (test (suc n)) (some (suc n)) (greatest test n)

-- A free minute of the desk, and the order in which the rows are taken from it.
pub record OrderFrom : Type 0 where
  pub minute : ℕ
  pub order : List ℕ

abbrev pub from_minute : ℕ → Option (List ℕ) → Option OrderFrom
from_minute t none = none
from_minute t (some order) = some (record { minute = t; order = order })

-- The minute that is found, if there is one, with the order that is taken from there.
abbrev pub from_free : (orders : ℕ → Option (List ℕ)) → Option ℕ → Option OrderFrom
from_free orders none = none
from_free orders (some t) = from_minute t (orders t)

module _ (job : ℕ → Job) (left : List ℕ) (end late : ℤ) where
  -- Some order of the rows keeps both from the minute t on.
  unfoldable pub allowed : ℕ → Bool
  allowed t = some_meets end late (attained job t left)

  -- The latest free minute, from 0 to 10,000,000, at which some order keeps both.
  abbrev pub latest_free : Option ℕ
  latest_free = greatest allowed latest_minute

  -- With the order for the wanted lateness from there.
  abbrev pub latest_order : Option OrderFrom
  latest_order = from_free (λ t. order_for job t left late) latest_free

  -- The same, said of orders: an order of the rows keeps both from the minute t on; some order does.
  pub record KeepsBoth (t : ℕ) (order : List ℕ) : Type 0 where
    pub whole : OrderOf left order
    pub ends : pos (end_of job t order) ≤ℤ end
    pub lates : (pair_of job t order).late ≤ℤ late

  abbrev pub Allowed : ℕ → Type 0
  Allowed t = (order : List ℕ) × KeepsBoth t order

  -- t is the latest free minute: of the minutes from 0 to 10,000,000 those up to t allow it, and no other does.
  pub record LatestFree (t : ℕ) : Type 0 where
    pub in_range : t ≤ latest_minute
    pub exactly : (s : ℕ) → s ≤ latest_minute → Allowed s ↔ (s ≤ t)
