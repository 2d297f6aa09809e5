-- What holds of the latest free minute, and by what it is found: what one minute allows each earlier one does, and the order for the
-- wanted lateness decides a single minute. The proofs are in proofs/Latest.antt. Rests on: Latest, the schedule's Cover.
use Rattle.std.specs.Prelude.{ℕ, suc, ◌≤◌, ◌<◌, Bool, true, false, ◌≡◌, List, ◌↔◌, length, ℤ, pos}
use Rattle.std.proofs.Math.Option.{Option, none, some}
use Rattle.std.specs.Int.Signed.{le_z}
use Rattle.theory.specs.Jobs.{Job}
use Rattle.schedule.specs.Limits.{latest_minute}
use Rattle.schedule.specs.Desk.{end_of}
use Rattle.schedule.specs.Picks.{order_for}
use Rattle.schedule.specs.Cover.{Agreeing}
use Rattle.how_late.specs.Latest.{OrderFrom, latest_free, latest_order, Allowed, LatestFree}

-- An order, if there is one, ends by the wanted end.
abbrev pub ends_by : (ℕ → Job) → (end : ℤ) → ℕ → Option (List ℕ) → Bool
ends_by job end t none = false
ends_by job end t (some order) = le_z (pos (end_of job t order)) end

module _ (job : ℕ → Job) (left : List ℕ) (end late : ℤ) where
  -- Of any rows: the latest free minute is what it says, there is none exactly if no order keeps both from minute 0 on, and what a minute
  -- allows an earlier one does.
  pub record LatestHolds : Type 0 where
    pub found : (t : ℕ) → (latest_free job left end late ≡ some t) ↔ LatestFree job left end late t
    pub unreachable : (latest_free job left end late ≡ none) ↔ (¬ Allowed job left end late 0)
    pub earlier : (s t : ℕ) → s ≤ t → Allowed job left end late t → Allowed job left end late s

  -- The test of one minute by one order: that for the wanted lateness ends by the wanted end.
  abbrev pub in_time : ℕ → Bool
  in_time t = ends_by job end t (order_for job t left late)

  -- Of rows that agree: that order decides the minute, so two orders tell the latest free minute: at it and at the next, if there is one.
  -- And a minute with an order is the latest exactly if the minute is and the order is the one for the wanted lateness from it.
  pub record LatestLaws : Type 0 where
    pub decides : (t : ℕ) → (in_time t ≡ true) ↔ Allowed job left end late t
    pub next : (t : ℕ) → t ≤ latest_minute → in_time t ≡ true → (t < latest_minute → in_time (suc t) ≡ false) →
        latest_free job left end late ≡ some t
    pub never : in_time 0 ≡ false → latest_free job left end late ≡ none
    pub order_from : (s : OrderFrom) → (latest_order job left end late ≡ some s) ↔
        (LatestFree job left end late s.minute × (order_for job s.minute left late ≡ some s.order))
    pub no_order : (latest_order job left end late ≡ none) ↔ (¬ Allowed job left end late 0)

abbrev pub HowLate : Type 0
HowLate = (job : ℕ → Job) (left : List ℕ) (end late : ℤ) → LatestHolds job left end late ×
    (Agreeing job left → 0 < length left → LatestLaws job left end late)
