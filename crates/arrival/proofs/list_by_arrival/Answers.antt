-- `list_by_arrival` meets its contract: the list is the one plan.
-- Assumes nothing.
use lib.ListN.{replicate, length-replicate}
use Rattle.schedule.specs.Limits.{most_rows}
use Rattle.schedule.specs.Columns.{columns}
use Rattle.arrival.proofs.Arrived.{one_plan}
use Prim.Native.Nat.{ℕ}
use Rattle.arrival.proofs.list_by_arrival.Goals as goal

pub returns : goal.returns
returns c =
    let a = c.args in
    let job = columns a.release.now a.minutes.now a.due.now in
    let zeros = replicate {A = ℕ} most_rows 0 in
    let size = length-replicate {A = ℕ} most_rows 0 in
    one_plan job a.n a.free c.requires.le_n.0 c.arrive-plan.result c.arrive-plan.ensures zeros zeros size size
