-- `first_beating` meets its contract. The invariant: what is found from here on is what is found from the start.
-- Assumes nothing.
use native.Mathlib.Omega.{arith}
use mathlib.Core.Path.{refl, sym, ◌∙◌}
use Rattle.listing.specs.Fronts.{pair_at}
use Rattle.results.proofs.Beating.{first_here, first_on, first_no}
use Rattle.results.proofs.first_beating.Goals as goal

pub loop-i-init : goal.loop-i-init
loop-i-init c = refl

pub returns-then-beats_pair : goal.returns-then-beats_pair
returns-then-beats_pair c =
    let l = c.loop-i in
    let a = c.args in
    first_here a.ends.now a.lates.now a.count (omega arith) (omega arith) (pair_at a.end a.late) l.i (omega arith)
    (sym c.beats_pair.ensures ∙ c.if-beats_pair.true) l.invariant

pub loop-i-preserved : goal.loop-i-preserved
loop-i-preserved c =
    let l = c.loop-i in
    let a = c.args in
    first_on a.ends.now a.lates.now a.count (omega arith) (omega arith) (pair_at a.end a.late) l.i (omega arith)
    (sym c.beats_pair.ensures ∙ c.if-beats_pair.false) l.invariant

pub returns : goal.returns
returns c =
    let l = c.loop-i in
    let a = c.args in
    first_no a.ends.now a.lates.now a.count (omega arith) (omega arith) (pair_at a.end a.late) l.i (omega arith)
    l.invariant
