-- What the search for the order for a bound answers. Latenesses and bounds are raised by 2³¹. Rows are numbered by rank, or as they are.
-- Rests on: Taking, and the schedule's order for a bound.
use Rattle.std.specs.Prelude.{ℕ, ◌≤◌, ◌<◌, ◌≡◌, List, length, take}
use Rattle.std.proofs.Math.Option.{Option, none, some}
use Rattle.theory.specs.Jobs.{Job}
use Rattle.schedule.specs.Limits.{latest_raised, most_rows}
use Rattle.schedule.specs.Rows.{count_from}
use Rattle.schedule.specs.Picks.{order_for}
use Rattle.schedule.specs.Offset.{lowered, desk_at}
use Rattle.picks.specs.declared.Standing.{Standing}
use Rattle.search.specs.Taking.{desk_through}

module _ (job : ℕ → Job) where
  -- The order for a raised bound, of the rows 1 to n.
  abbrev pub order_at_raised : ℕ → ℕ → ℕ → Option (List ℕ)
  order_at_raised n free bound = order_for job free (count_from 1 n) (lowered bound)

  -- The whole outcome of the search for the order for a bound: the desk after it and the order; or that the bound is unkept.
  pub record Searched (n free bound : ℕ) (r : Standing) (order : List ℕ) : Type 0 where
    pub kept : r.desk.worst ≤ bound →
        (order_at_raised n free bound ≡ some (take n order)) × (r.desk ≡ desk_through job (desk_at free) (take n order)) ×
        (r.desk.worst ≤ latest_raised)
    pub over : bound < r.desk.worst → order_at_raised n free bound ≡ none
    pub places : length order ≡ most_rows
