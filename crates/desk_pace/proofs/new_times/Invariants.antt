-- `new_times` meets its contract: the places before i are filled.
-- Assumes nothing.
use Prim.Native.Nat.{◌≤◌, ◌+◌, ◌-◌}
use Rattle.schedule.specs.Limits.{row_places}
use Rattle.schedule.specs.Filled.{Filled, from}
use Rattle.running.specs.Words.{count_in}
use Rattle.desk_pace.specs.Paces.{time_by_pace}
use Rattle.desk_pace.proofs.new_times.Given as goal

abbrev pub invariant-loop-i : goal.invariant-loop-i
invariant-loop-i l =
    (l.i ≤ count_in l.desk + 1) × Filled row_places (from 1) (λ k. time_by_pace l.desk l.pace (k + 1)) (l.i - 1) l.column
