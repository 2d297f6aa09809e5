-- `line_at` meets its contract: a line is cut from what is left of the text.
-- Assumes nothing.
use Rattle.text_words.proofs.Parts.{begins_line}
use Rattle.text_words.proofs.line_at.Goals as goal

pub returns-clause-part : goal.returns-clause-part
returns-clause-part c = begins_line c.args.text.now c.args.at c.line_end-stop.result c.find-end.result
