-- `put_rows` meets its contract: the first places are written over.
-- Assumes nothing.
use mathlib.Core.Path.{◌≡◌}
use Rattle.schedule.specs.Columns.{at}
use Rattle.desk_plans.proofs.RowsPut.{put_to}
use Rattle.desk_plans.proofs.put_rows.Given as goal

abbrev pub invariant-loop-place : goal.invariant-loop-place
invariant-loop-place l = l.place-items ≡ put_to (at l.rows) l.initial.place-items l.place-index
