-- `place_within` meets its contract. The invariant: the place is not passed.
-- Assumes nothing.
use native.Mathlib.Omega.{arith}
use Rattle.choice.proofs.Places.{place_low, found, next}
use Rattle.choice.proofs.place_within.Goals as goal

pub returns-then-lates-k : goal.returns-then-lates-k
returns-then-lates-k c =
    let a = c.args in
    let l = c.loop-k in
    found a.bound a.count a.lates.now (omega arith) l.k l.invariant (omega arith) c.if-lates-k.true

pub loop-k-preserved : goal.loop-k-preserved
loop-k-preserved c =
    let a = c.args in
    let l = c.loop-k in
    next a.bound a.count a.lates.now (omega arith) l.k l.invariant (omega arith) c.if-lates-k.false

pub returns : goal.returns
returns c =
    let a = c.args in
    let l = c.loop-k in
    omega (arith, l.invariant, place_low a.bound a.count a.lates.now (omega arith))
