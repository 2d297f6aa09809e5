-- `class_of` meets its contract: a word of kind 0 is a class.
-- Assumes nothing.
use borrow.Author.Tests.{eq-eqb, ne_eqb}
use Rattle.row_reader.specs.Due.{class_of}
use Rattle.row_reader.proofs.class_of.Goals as goal

pub returns-then-kind_of-eq0 : goal.returns-then-kind_of-eq0
unfolding class_of
returns-then-kind_of-eq0 c = rw (← c.word_at-w.ensures, ← c.kind_of.ensures, eq-eqb _ 0 c.if-kind_of-eq0.true)
    (cc)

pub returns-else-kind_of-eq0 : goal.returns-else-kind_of-eq0
unfolding class_of
returns-else-kind_of-eq0 c = rw (← c.word_at-w.ensures, ← c.kind_of.ensures, ne_eqb _ 0 c.if-kind_of-eq0.false)
