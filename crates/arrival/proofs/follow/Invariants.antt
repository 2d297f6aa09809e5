-- `follow` meets its contract: from each place of the posting on, the rest leads where all of it leads from the start.
-- Assumes nothing.
use Rattle.schedule.specs.Columns.{columns}
use Rattle.arrival.proofs.Following.{Following}
use Rattle.arrival.proofs.follow.Given as goal

abbrev pub invariant-loop-row : goal.invariant-loop-row
invariant-loop-row l = Following (columns l.release l.minutes l.due) l.free l.posting l.desk l.row-index
