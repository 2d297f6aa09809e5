-- `desk_of` meets its contract: the words give back the desk that they hold.
-- Assumes nothing.
use native.Mathlib.Omega.{arith}
use Rattle.trail.proofs.TrailWords.{minute_fits, worst_fits, desk_back}
use Rattle.trail.proofs.desk_of.Goals as goal

pub overflow_cast-result : goal.overflow_cast-result
overflow_cast-result c = record { fits = omega (arith, minute_fits _ c.requires.0 c.requires.1 c.requires.2 c.requires.3) }

pub overflow_cast-result-2 : goal.overflow_cast-result-2
overflow_cast-result-2 c = record { fits = omega (arith, worst_fits _ c.requires.0 c.requires.1 c.requires.2 c.requires.3) }

pub returns : goal.returns
returns c = λ s second fits e. desk_back _ s second fits e
