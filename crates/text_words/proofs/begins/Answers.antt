-- `begins` meets its contract: the line is cut from the text, and its first word from the line.
-- Assumes nothing.
use Rattle.text_words.proofs.Parts.{line_in}
use Rattle.text_words.proofs.begins.Goals as goal

pub returns-then-eq-clause-part : goal.returns-then-eq-clause-part
returns-then-eq-clause-part c = line_in _ _ _ _ c.line_at-line.ensures.part c.in_ok-next.ensures.steps
