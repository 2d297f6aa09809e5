-- `words_of` meets its contract: the words hold the desk and which block was taken.
-- Assumes nothing.
use Rattle.trail.proofs.TrailWords.{words_hold}
use Rattle.trail.proofs.words_of.Goals as goal

pub returns : goal.returns
returns c = λ h. rw (c.from.ensures, c.from-2.ensures, c.from-3.ensures) (words_hold c.args.s c.args.second h)
