-- `order_for` meets its contract: each profile has its own order for the bound.
-- Assumes nothing.
use Rattle.schedule.specs.declared.Profile.TheVariants.{Ordering, FirstCome}
use Rattle.schedule.specs.Rows.{count_from}
use Rattle.schedule.specs.Profiles.{order_by}
use Rattle.schedule.specs.Columns.{columns}
use Rattle.plans.proofs.Profiles.{given_by}
use Rattle.plans.proofs.order_for.Goals as goal

pub returns-in-FirstCome : goal.returns-in-FirstCome
unfolding order_by
returns-in-FirstCome c =
    let a = c.args in
    let job = columns a.release.now a.minutes.now a.due.now in
    given_by job a.free (count_from 1 a.n) a.bound a.profile FirstCome
    c.in-FirstCome.is _ _ _ c.order_by_arrival.ensures

pub returns-in-Ordering : goal.returns-in-Ordering
unfolding order_by
returns-in-Ordering c =
    let a = c.args in
    let job = columns a.release.now a.minutes.now a.due.now in
    given_by job a.free (count_from 1 a.n) a.bound a.profile Ordering
    c.in-Ordering.is _ _ _ c.order_by_rank.ensures
