-- `number_stands` meets its contract: each turn of the loop compares one number more.
-- Assumes nothing.
use mathlib.Core.Path.{sym}
use lib.ListN.{take}
use borrow.Author.Rules.{rules}
use Rattle.schedule.proofs.Stands.{stands_none, stands_on}
use Rattle.row_reader.proofs.number_stands.Goals as goal

pub loop-n-init : goal.loop-n-init
loop-n-init c = sym (stands_none c.args.number)

pub loop-n-preserved : goal.loop-n-preserved
loop-n-preserved c =
    let a = c.args in
    rw (stands_on a.number (take a.count a.numbers.now) c.loop-n.n-index (search rules), c.loop-n.invariant)
