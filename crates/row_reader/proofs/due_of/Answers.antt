-- `due_of` meets its contract: the due word's value, or the sum with the class's margin.
-- Assumes nothing.
use Rattle.row_reader.specs.Due.{due_by}
use Rattle.row_reader.proofs.due_of.Goals as goal

pub returns-in-None : goal.returns-in-None
unfolding due_by
returns-in-None c = cc

pub returns-in-Some : goal.returns-in-Some
unfolding due_by
returns-in-Some c = cc
