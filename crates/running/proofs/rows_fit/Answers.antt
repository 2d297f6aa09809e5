-- `rows_fit` meets its contract.
-- Assumes nothing.
use Rattle.std.proofs.Math.Bool.{and_assoc}
use Rattle.running.specs.Words.{rows_fit}
use Rattle.running.proofs.rows_fit.Goals as goal

pub returns : goal.returns
unfolding rows_fit
returns c =
    simp (
      c.column_fits-release.ensures,
      c.column_fits-time.ensures,
      c.column_fits-due.ensures,
      c.column_fits-mark.ensures,
      and_assoc,
    )
