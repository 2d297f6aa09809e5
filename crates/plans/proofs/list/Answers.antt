-- `list` meets its contract: each profile has its own list.
-- Assumes nothing.
use mathlib.Core.Path.{sym, subst}
use Rattle.schedule.specs.declared.Profile.{Profile}
use Rattle.schedule.specs.Rows.{count_from}
use Rattle.schedule.specs.Profiles.{Obeys, plans_by}
use Rattle.schedule.specs.Columns.{columns}
use Rattle.listing.specs.Fronts.{HoldsPlans}
use Rattle.plans.proofs.list.Goals as goal

pub list_by_arrival-requires : goal.list_by_arrival-requires
list_by_arrival-requires c = record { limits = c.requires.limits; le_n = (c.requires.le_n.0, c.requires.le_n.1, c.requires.le_n.2) }

pub returns-in-FirstCome : goal.returns-in-FirstCome
returns-in-FirstCome c =
    let a = c.args in
    let job = columns a.release.now a.minutes.now a.due.now in
    subst (λ (p : Profile). HoldsPlans (plans_by p job a.free (count_from 1 a.n)) a.n c.list_by_arrival.result)
    (sym c.in-FirstCome.is)
    c.list_by_arrival.ensures

pub list_by_rank-requires : goal.list_by_rank-requires
list_by_rank-requires c =
    let a = c.args in
    let job = columns a.release.now a.minutes.now a.due.now in record { limits = c.requires.limits; le_n = (c.requires.le_n.0, c.requires.le_n.1, c.requires.le_n.2, subst (λ (p : Profile). Obeys p job (count_from 1 a.n)) c.in-Ordering.is c.requires.le_n.3) }

pub returns-in-Ordering : goal.returns-in-Ordering
unfolding plans_by
returns-in-Ordering c =
    let a = c.args in
    let job = columns a.release.now a.minutes.now a.due.now in
    subst (λ (p : Profile). HoldsPlans (plans_by p job a.free (count_from 1 a.n)) a.n c.list_by_rank.result)
    (sym c.in-Ordering.is)
    c.list_by_rank.ensures
