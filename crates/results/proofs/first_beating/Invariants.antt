-- `first_beating` meets its contract. The invariant: what is found from here on is what is found from the start.
-- Assumes nothing.
use Prim.Native.Nat.{◌+◌}
use mathlib.Core.Path.{◌≡◌}
use lib.ListN.{take, drop}
use Rattle.schedule.specs.Plans.{first_beating}
use Rattle.listing.specs.Fronts.{pair_at, pairs_of}
use Rattle.results.proofs.first_beating.Given as goal

abbrev pub invariant-loop-i : goal.invariant-loop-i
invariant-loop-i l =
    first_beating 1 (pairs_of (take l.count l.ends) (take l.count l.lates)) (pair_at l.end l.late) ≡
    first_beating (l.i + 1) (drop l.i (pairs_of (take l.count l.ends) (take l.count l.lates))) (pair_at l.end l.late)
