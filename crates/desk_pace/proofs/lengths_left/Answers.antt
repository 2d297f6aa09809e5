-- `lengths_left` meets its contract: the places before k are filled.
-- Assumes nothing.
use Prim.Native.Nat.{◌-◌}
use native.Mathlib.Omega.{arith}
use Rattle.schedule.specs.Limits.{row_places}
use Rattle.schedule.specs.Filled.{from}
use Rattle.schedule.proofs.Filling.{filled_first, filled_last}
use Rattle.desk_pace.proofs.lengths_left.Goals as goal

pub loop-k-init : goal.loop-k-init
loop-k-init c = (omega arith, filled_first row_places (from 1) _ _ c.requires.6)

pub returns : goal.returns
returns c = filled_last row_places (from 1) _ (c.loop-k.k - 1) c.args.n _ (omega arith) (omega arith) c.loop-k.invariant.1
