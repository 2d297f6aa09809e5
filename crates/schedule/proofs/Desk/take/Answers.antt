-- `Desk::take` meets its contract: the code computes what the definition says.
-- Assumes nothing.
use Rattle.theory.specs.Jobs.{finish}
use Rattle.schedule.proofs.Desk.take.Goals as goal

pub returns : goal.returns
unfolding finish
returns c = cc
