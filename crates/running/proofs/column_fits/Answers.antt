-- `column_fits` meets its contract: each turn of the loop tests one word more.
-- Assumes nothing.
use mathlib.Core.Path.{sym}
use Rattle.running.proofs.Fits.{fits_none, fits_more}
use Rattle.running.proofs.column_fits.Goals as goal

pub loop-word-init : goal.loop-word-init
loop-word-init c = sym (fits_none _ _ _ _)

pub loop-word-preserved : goal.loop-word-preserved
loop-word-preserved c =
    let a = c.args in
    let l = c.loop-word in
    fits_more a.before a.least a.most a.desk.now _ l.word-index l.fit _ c.loop-word-test.true l.invariant c.is_between-fit.ensures
