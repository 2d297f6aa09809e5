-- `is_outside` meets its contract: the two comparisons are the definition's.
-- Assumes nothing.
use borrow.Author.Tests.{le-ltb, lt-ltb}
use Rattle.words.proofs.is_outside.Goals as goal

pub returns-then-v-lo : goal.returns-then-v-lo
returns-then-v-lo c = rw (lt-ltb _ _ c.if-v-lo.true)

pub returns-else-v-lo : goal.returns-else-v-lo
returns-else-v-lo c = rw (le-ltb _ _ c.if-v-lo.false)
