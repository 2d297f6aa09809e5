-- `beats_pair` meets its contract: raised latenesses compare as the signed ones do.
-- Assumes nothing.
use Rattle.schedule.specs.Plans.{beats}
use Rattle.schedule.proofs.Raised.{lowered_le, lowered_lt}
use Rattle.results.proofs.beats_pair.Goals as goal

pub returns : goal.returns
unfolding beats
returns c = let a = c.args in simp (lowered_le a.late a.limit, lowered_lt a.late a.limit)
