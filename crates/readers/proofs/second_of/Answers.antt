-- `second_of` meets its contract: each profile has its second number.
-- Assumes nothing.
use Rattle.readers.specs.Seconds.{second_by}
use Rattle.readers.proofs.second_of.Goals as goal

pub returns-in-Ordering : goal.returns-in-Ordering
unfolding second_by
returns-in-Ordering c = rw c.in-Ordering.is

pub returns-in-FirstCome : goal.returns-in-FirstCome
unfolding second_by
returns-in-FirstCome c = rw c.in-FirstCome.is
