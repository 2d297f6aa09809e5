-- `choose` meets its contract. The invariant: what is taken so far, with a bound one below it, and cursors that are not past that bound's
-- plans. The measure is the bound.
-- Assumes nothing.
use lib.ListN.{length}
use Rattle.choice.specs.Lists.{Behind}
use Rattle.choice.proofs.Choosing.{Standing}
use Rattle.choice.proofs.choose.Given as goal

abbrev pub invariant-loop-taken : goal.invariant-loop-taken
invariant-loop-taken l =
    Standing l.plans l.fronts l.closings l.limit l.best l.bound × Behind l.plans l.fronts (length l.closings) l.bound l.cursors

abbrev pub decreases-loop-taken : goal.decreases-loop-taken
decreases-loop-taken l = l.bound
