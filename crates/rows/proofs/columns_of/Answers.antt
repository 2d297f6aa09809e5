-- `columns_of` meets its contract: each turn lays one row more.
use Rattle.std.proofs.Common.{arith, refl}
use Rattle.rows.proofs.Laid.{laid_none, laid_more}
use Rattle.rows.proofs.columns_of.Goals as goal

pub loop-i-init : goal.loop-i-init
loop-i-init c = laid_none

pub loop-i-preserved : goal.loop-i-preserved
loop-i-preserved c =
    let l = c.loop-i in laid_more c.args.rows.now l.i l.columns _ (omega arith) refl l.invariant
