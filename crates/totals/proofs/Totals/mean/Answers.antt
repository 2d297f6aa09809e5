-- `mean` meets its contract, by the law of sums of raised numbers.
-- Assumes nothing.
use Rattle.totals.proofs.Mean.{raised_mean}
use Rattle.totals.proofs.Totals.mean.Goals as goal

pub returns : goal.returns
returns c =
    rw c.from-count.ensures (raised_mean c.args.self.late c.args.self.accepted c.requires)
