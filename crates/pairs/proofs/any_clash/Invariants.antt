-- `any_clash` meets its contract: each turn of the loop compares one row more with the rows above it.
-- Assumes nothing.
use Prim.Native.Nat.{◌≤◌, ◌+◌, ◌-◌}
use mathlib.Core.Path.{◌≡◌}
use Rattle.pairs.specs.Columns.{some_clash}
use Rattle.pairs.proofs.any_clash.Given as goal

abbrev pub invariant-loop-i : goal.invariant-loop-i
invariant-loop-i l = (l.i ≤ l.count + 1) × (l.found ≡ some_clash l.dues l.seconds (l.i - 1))
