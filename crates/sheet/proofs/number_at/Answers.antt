-- `number_at` meets its contract: past the last place there is 0.
-- Assumes nothing.
use mathlib.Core.Path.{sym}
use native.Mathlib.Omega.{arith}
use lib.ListN.{get_or-eq_default}
use Rattle.sheet.proofs.number_at.Goals as goal

pub returns-else-i-lt-PLACES : goal.returns-else-i-lt-PLACES
returns-else-i-lt-PLACES c = sym (get_or-eq_default c.args.numbers.now 0 (omega arith))
