-- `back_to` meets its contract: all blocks passed on the way back began above the bound.
-- Assumes nothing.
use Rattle.trail.proofs.Trails.{Past}
use Rattle.trail.proofs.back_to.Given as goal

abbrev pub invariant-loop-k : goal.invariant-loop-k
invariant-loop-k l = Past l.trail l.bound l.depth l.k
