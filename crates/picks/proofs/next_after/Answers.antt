-- `picks::next_after` meets its contract: the least number of the set without i is in i's word, or in those after it.
-- Assumes nothing.
use Rattle.picks.proofs.Sets.{away_fits, after_some, after_words, after_clear, after_zero}
use Rattle.picks.proofs.next_after.Goals as goal

pub overflow_sub-w : goal.overflow_sub-w
overflow_sub-w c = let w = c.requires.1 in away_fits w.1 c.args.i c.requires.0 w.2

pub returns-then-w-ne0 : goal.returns-then-w-ne0
returns-then-w-ne0 c = λ p s f on first. after_some s c.args.i c.requires.0 on first c.if-w-ne0.true f

pub returns : goal.returns
returns c = λ p s f on first.
    let i = c.args.i in
    let high = c.requires.0 in
    c.lowest.ensures _ (after_words s i high on first) (after_clear s i high on first c.if-w-ne0.false) (after_zero s i high on first f)
