-- `any_clash` meets its contract: each turn of the loop compares one row more with the rows above it.
-- Assumes nothing.
use Prim.Native.Nat.{◌+◌, ◌-◌}
use native.Mathlib.Omega.{arith}
use mathlib.Core.Path.{◌≡◌, sym}
use mathlib.Core.Bool.{◌||◌}
use borrow.Author.Rules.{rules}
use Rattle.pairs.specs.Columns.{some_clash}
use Rattle.pairs.proofs.Columns.{some_none, some_turn}
use Rattle.pairs.proofs.any_clash.Goals as goal
use Rattle.pairs.proofs.any_clash.Goals.{After-clashes_above-found}

-- What was found of the rows up to row i, at the end of its turn.
turn : (c : After-clashes_above-found) →
    (c.loop-i.found || c.clashes_above-found.result) ≡ some_clash c.args.dues.now c.args.seconds.now c.loop-i.i
turn c =
    some_turn c.args.dues.now c.args.seconds.now c.loop-i.i c.loop-i.auto.i _ _ c.loop-i.invariant.1 c.clashes_above-found.ensures

pub loop-i-init : goal.loop-i-init
loop-i-init c = (search rules, sym (some_none _ _))

pub loop-i-preserved : goal.loop-i-preserved
loop-i-preserved c =
    let next : c.loop-i.i + 1 - 1 ≡ c.loop-i.i = omega arith in
    (omega arith, rw next (turn (goal.at.loop-i-preserved c).After-clashes_above-found))

pub returns : goal.returns
returns c = let all : c.loop-i.i - 1 ≡ c.args.count = omega arith in rw all at c.loop-i.invariant.1

pub returns-2 : goal.returns-2
returns-2 c =
    let all : c.loop-i.i ≡ c.args.count = omega arith in
    rw all at (turn (goal.at.returns-2 c).After-clashes_above-found)
