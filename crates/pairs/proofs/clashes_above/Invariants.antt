-- `clashes_above` meets its contract: each turn of the loop compares one row more.
-- Assumes nothing.
use Prim.Native.Nat.{◌-◌}
use mathlib.Core.Path.{◌≡◌}
use Rattle.pairs.specs.Columns.{any_clashes}
use Rattle.pairs.proofs.clashes_above.Given as goal

abbrev pub invariant-loop-j : goal.invariant-loop-j
invariant-loop-j l = l.found ≡ any_clashes l.dues l.seconds l.row (l.j - 1)
