-- `place_within` meets its contract. The invariant: the place is not passed.
-- Assumes nothing.
use Prim.Native.Nat.{◌≤◌}
use lib.ListN.{take}
use Rattle.choice.specs.Lists.{place_within}
use Rattle.choice.proofs.place_within.Given as goal

abbrev pub invariant-loop-k : goal.invariant-loop-k
invariant-loop-k l = l.k ≤ place_within l.bound (take l.count l.lates)
