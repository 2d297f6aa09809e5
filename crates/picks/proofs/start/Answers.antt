-- `picks::start` meets its contract: all rows stand ahead, and `advance` puts those released by the free minute into the set.
-- Assumes nothing.
use mathlib.Core.Path.{refl}
use Rattle.schedule.specs.Rows.{count_from}
use Rattle.picks.proofs.Starts.{at_start, started}
use Rattle.picks.proofs.start.Goals as goal

pub advance-next-requires : goal.advance-next-requires
advance-next-requires c =
    let e = c.requires.0 in
    (e.0, e.1, count_from 1 c.args.n, e.2, at_start e.2 c.args.free)

pub returns : goal.returns
returns c = (
  λ minutes due k.
      let a = c.args in
      started c.requires.1 c.at.ensures
      (c.advance-next.ensures minutes due (count_from 1 a.n) k (at_start k a.free)),
  c.at.ensures,
  refl,
)
