-- `earliest_clash` meets its contract: the scan stops at the first row that clashes with a row above it.
-- Assumes nothing.
use Prim.Native.Nat.{◌≤◌, ◌+◌, ◌-◌}
use mathlib.Core.Path.{◌≡◌}
use mathlib.Core.Bool.{false}
use Rattle.pairs.specs.Columns.{any_clashes}
use Rattle.pairs.proofs.Columns.{ScanAt}
use Rattle.pairs.proofs.earliest_clash.Given as goal

abbrev pub invariant-loop-i : goal.invariant-loop-i
invariant-loop-i l = (l.i ≤ l.count + 1) × ScanAt l.dues l.seconds l.count l.number l.i

abbrev pub invariant-loop-j : goal.invariant-loop-j
invariant-loop-j l = any_clashes l.dues l.seconds l.i (l.j - 1) ≡ false
