-- `read_desks` meets its contract: each turn reads one book more.
-- Assumes nothing.
use Rattle.readers.specs.Reads.{ordering_rule}
use Rattle.several_books.proofs.Desks.{ReadTo}
use Rattle.several_books.proofs.read_desks.Given as goal

abbrev pub invariant-loop-d : goal.invariant-loop-d
invariant-loop-d l =
    ReadTo (ordering_rule l.opening) l.books l.lengths l.free l.rows l.plans l.columns l.fronts l.total l.at l.d
