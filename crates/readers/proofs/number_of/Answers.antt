-- `number_of` meets its contract: each profile has its number.
-- Assumes nothing.
use Rattle.readers.specs.Rules.{number_by}
use Rattle.readers.proofs.number_of.Goals as goal

pub returns-in-Ordering : goal.returns-in-Ordering
unfolding number_by
returns-in-Ordering c = rw c.in-Ordering.is

pub returns-in-FirstCome : goal.returns-in-FirstCome
unfolding number_by
returns-in-FirstCome c = rw c.in-FirstCome.is
