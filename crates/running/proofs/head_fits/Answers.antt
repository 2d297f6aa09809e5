-- `head_fits` meets its contract.
-- Assumes nothing.
use Rattle.std.proofs.Math.Bool.{and_assoc}
use Rattle.running.specs.Words.{head_fits}
use Rattle.running.proofs.head_fits.Goals as goal

pub returns : goal.returns
unfolding head_fits
returns c = simp (c.is_between-2.ensures, c.is_between.ensures, and_assoc)
