-- `column_fits` meets its contract: each turn of the loop tests one word more.
-- Assumes nothing.
use mathlib.Core.Path.{◌≡◌}
use Rattle.running.specs.Words.{column_fits}
use Rattle.running.proofs.column_fits.Given as goal

abbrev pub invariant-loop-word : goal.invariant-loop-word
invariant-loop-word l = l.fit ≡ column_fits l.before l.least l.most l.desk l.word-index
