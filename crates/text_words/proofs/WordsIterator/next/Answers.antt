-- `next` meets its contract: the word stands behind the blanks, and what is left behind the word.
-- Assumes nothing.
use Rattle.text_words.proofs.Parts.{word_cut}
use Rattle.text_words.proofs.WordsIterator.next.Goals as goal

pub returns-clause-steps : goal.returns-clause-steps
returns-clause-steps c = word_cut c.args.self.now.rest.now c.in_ok-start.start c.unwrap_or-more.result
