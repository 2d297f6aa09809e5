-- `due_tests` meets its contract: a due word's tests, or a class word's.
-- Assumes nothing.
use Rattle.row_reader.specs.Due.{tests_by}
use Rattle.row_reader.proofs.due_tests.Goals as goal

pub returns-in-None : goal.returns-in-None
unfolding tests_by
returns-in-None c = rw (← c.class_of.ensures, c.in-None.is) (cc)

pub returns-in-Some : goal.returns-in-Some
unfolding tests_by
returns-in-Some c = rw (← c.class_of.ensures, c.in-Some.is) (cc)
