-- `picks::lowest` meets its contract. The loop's invariant: the words before q hold nothing.
-- Assumes nothing.
use Rattle.picks.proofs.Sets.{clear_next, least_none, least_some}
use Rattle.picks.proofs.lowest.Goals as goal

pub loop-q-init : goal.loop-q-init
loop-q-init c = λ p words before. before

pub returns-then-w-ne0 : goal.returns-then-w-ne0
returns-then-w-ne0 c = λ p words before f.
    let l = c.loop-q in
    least_some l.q (l.invariant p words before) (words l.q l.auto.q c.loop-q-test.true) c.loop-q-test.true c.if-w-ne0.true f

pub loop-q-preserved : goal.loop-q-preserved
loop-q-preserved c = λ p words before.
    let l = c.loop-q in
    clear_next l.q (l.invariant p words before) (words l.q l.auto.q c.loop-q-test.true) c.if-w-ne0.false

pub returns : goal.returns
returns c = λ p words before f. let l = c.loop-q in least_none l.q (l.invariant p words before) c.loop-q-test.false
