-- `picks::away` meets its contract: the bit of a number of the set is 1, so that taking it off borrows nothing.
-- Assumes nothing.
use Rattle.picks.proofs.Sets.{away_fits, away_words}
use Rattle.picks.proofs.away.Goals as goal

pub overflow_sub-ready : goal.overflow_sub-ready
overflow_sub-ready c = let w = c.requires.1 in away_fits w.1 c.args.i c.requires.0 w.2

pub returns : goal.returns
returns c = λ p s f. away_words s c.args.i c.requires.0 f
