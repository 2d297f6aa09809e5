-- `add_opening` meets its contract: the first rows have their times, and the others their lengths.
-- Assumes nothing.
use Prim.Native.Nat.{◌+◌, ◌-◌}
use native.Mathlib.Omega.{arith}
use Rattle.readers.proofs.Timing.{timed}
use Rattle.readers.proofs.add_opening.Goals as goal

pub returns : goal.returns
returns c =
    let a = c.args in
    let l = c.loop-time in
    timed a.opening a.n (a.n + 1 - 1) a.minutes.now l.time-items (omega arith) (omega arith) l.auto.time-items
    (λ k h. l.invariant.added k (omega arith))
