-- `new_times` meets its contract: the places before i are filled.
-- Assumes nothing.
use Prim.Native.Nat.{◌-◌}
use native.Mathlib.Omega.{arith}
use Rattle.schedule.specs.Limits.{row_places}
use Rattle.schedule.specs.Filled.{from}
use Rattle.schedule.proofs.Filling.{filled_first, filled_last}
use Rattle.running.specs.Words.{count_in}
use Rattle.desk_pace.proofs.new_times.Goals as goal

pub loop-i-init : goal.loop-i-init
loop-i-init c = (omega arith, filled_first row_places (from 1) _ _ c.requires.6)

pub returns : goal.returns
returns c = filled_last row_places (from 1) _ (c.loop-i.i - 1) (count_in c.args.desk.now) _ (omega arith) (omega arith) c.loop-i.invariant.1
