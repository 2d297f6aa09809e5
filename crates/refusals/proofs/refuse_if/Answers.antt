-- `refuse_if` meets its contract: both branches give the definition's case.
-- Assumes nothing.
use Rattle.refusals.specs.Tests.{refuse_if}
use Rattle.refusals.proofs.refuse_if.Goals as goal

pub returns-then-test : goal.returns-then-test
unfolding refuse_if
returns-then-test c = rw c.if-test.true

pub returns-else-test : goal.returns-else-test
unfolding refuse_if
returns-else-test c = rw c.if-test.false
