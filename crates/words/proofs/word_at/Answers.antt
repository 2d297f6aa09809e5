-- `word_at` meets its contract: the word, or 0 past the end.
-- Assumes nothing.
use lib.ListN.{get_or-eq_default}
use Rattle.words.proofs.word_at.Goals as goal

pub returns-else-i-rest : goal.returns-else-i-rest
returns-else-i-rest c = rw (get_or-eq_default c.args.rest.now 0 c.if-i-rest.false)
