-- `picks::put` meets its contract: the bit of a number that is not in the set is 0, so that adding it carries nothing.
-- Assumes nothing.
use Rattle.picks.proofs.Sets.{put_fits, put_words}
use Rattle.picks.proofs.put.Goals as goal

pub overflow_add-ready : goal.overflow_add-ready
overflow_add-ready c = let w = c.requires.1 in record { fits = put_fits w.1 c.args.i c.requires.0 w.2 }

pub returns : goal.returns
returns c = λ p s f. put_words s c.args.i c.requires.0 f
