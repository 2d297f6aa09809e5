-- `clashes_above` meets its contract: each turn of the loop compares one row more.
-- Assumes nothing.
use mathlib.Core.Path.{sym}
use borrow.Author.Rules.{rules}
use Rattle.pairs.proofs.Columns.{above_none, above_turn}
use Rattle.pairs.proofs.clashes_above.Goals as goal

pub loop-j-init : goal.loop-j-init
loop-j-init c = sym (above_none _ _ _)

pub loop-j-preserved : goal.loop-j-preserved
loop-j-preserved c =
    above_turn c.args.dues.now c.args.seconds.now c.args.row c.loop-j.j (search rules) _ _ c.loop-j.invariant c.pair_clashes-found.ensures
