-- `order_in` meets its contract: too short a buffer, then what the search answers.
-- Assumes nothing.
use native.Mathlib.Omega.{arith}
use mathlib.Core.Path.{ap, ◌∙◌}
use lib.IntN.{ℤ}
use Rattle.std.specs.Prelude.{Ok}
use Rattle.schedule.specs.Offset.{lowered}
use Rattle.schedule.proofs.SignedWords.{lowered_word}
use Rattle.outcomes.specs.Planning.{gives}
use Rattle.outcomes.proofs.Answered.{order_short, order_unkept, order_kept}
use Rattle.outcomes.proofs.order_in.Goals as goal

pub returns-then-res-n : goal.returns-then-res-n
returns-then-res-n c =
    order_short c.requires (lowered c.args.bound) c.args.res.now c.if-res-n.true

pub order_for-requires : goal.order_for-requires
order_for-requires c =
    let p = c.requires in record { limits = p.limits; le_n = (p.low, p.few, p.early, c.if-res-n.false) }

pub returns-in_default : goal.returns-in_default
returns-in_default c =
    let o = c.order_for in
    order_unkept c.requires c.args.bound c.args.res.now c.if-res-n.false
    o.result _ o.ensures c.in_default.is

pub returns : goal.returns
returns c =
    let w = c.lower in
    ap (λ (z : ℤ). gives (Ok (record { end = c.in-Some.desk.minute; late = z })) c.order_for.new.out)
    (lowered_word c.in-Some.desk.worst w.result (omega arith) w.ensures) ∙
    order_kept c.requires c.args.bound c.args.res.now
    c.if-res-n.false c.order_for.result _ c.order_for.ensures c.in-Some.desk
    c.in-Some.is
