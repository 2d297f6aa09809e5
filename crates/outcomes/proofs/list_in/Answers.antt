-- `list_in` meets its contract: too short a buffer, then the plans.
-- Assumes nothing.
use native.Mathlib.Omega.{arith}
use Rattle.outcomes.proofs.Answered.{front_sized, list_short, list_done}
use Rattle.outcomes.proofs.list_in.Goals as goal

pub returns-then-res-n : goal.returns-then-res-n
returns-then-res-n c =
    list_short c.requires c.args.res.now c.if-res-n.true

pub list-front-requires : goal.list-front-requires
list-front-requires c =
    let p = c.requires in record { limits = p.limits; le_n = (p.low, p.few, p.early, p.rule) }

pub write_plans-requires : goal.write_plans-requires
write_plans-requires c =
    let l = c.list-front in
    let s = front_sized c.requires l.result l.ensures in
    (s.few, s.ends, s.lates, omega (arith, l.ensures.few, c.if-res-n.false))

pub returns : goal.returns
returns c =
    let l = c.list-front in
    list_done c.requires l.result l.ensures c.args.res.now _
    c.if-res-n.false c.write_plans.ensures
