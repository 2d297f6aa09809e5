-- Both profiles keep property 3, of any rows that keep their rule.
-- Assumes nothing.
use mathlib.Core.Path.{refl, sym}
use Rattle.schedule.specs.declared.Profile.TheVariants.{Ordering, FirstCome}
use Rattle.schedule.specs.Arrival.{ArrivalPromise}
use Rattle.schedule.specs.Profiles.{ProfilesPromised, plans_by, order_by}
use Rattle.schedule.proofs.Cover.{promised}
use Rattle.schedule.proofs.Arrival.{arrival_promised}

pub profiles_promised : ProfilesPromised
unfolding plans_by order_by
profiles_promised Ordering job t left rule some_row = (refl, promised job t left rule some_row)
profiles_promised FirstCome job t left rule some_row =
    let a : ArrivalPromise job t left = arrival_promised job t left rule some_row in
    (sym a.one_plan, a.promise)
