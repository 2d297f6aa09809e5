-- `number_stands` meets its contract: each turn of the loop compares one number more.
-- Assumes nothing.
use mathlib.Core.Path.{◌≡◌}
use lib.ListN.{take}
use Rattle.schedule.specs.Rows.{stands}
use Rattle.row_reader.proofs.number_stands.Given as goal

abbrev pub invariant-loop-n : goal.invariant-loop-n
invariant-loop-n l = l.found ≡ stands l.number (take l.n-index l.n-items)
