-- `answer` meets its contract: one test decides it.
-- Assumes nothing.
use borrow.Author.Tests.{le-leb, lt-leb}
use Rattle.listing.specs.PlanFor.{answer_of}
use Rattle.listing.proofs.answer.Goals as goal

pub returns-then-desk-bound : goal.returns-then-desk-bound
unfolding answer_of
returns-then-desk-bound c = simp (le-leb c.args.desk.worst c.args.bound c.if-desk-bound.true)

pub returns-else-desk-bound : goal.returns-else-desk-bound
unfolding answer_of
returns-else-desk-bound c = simp (lt-leb c.args.desk.worst c.args.bound c.if-desk-bound.false)
