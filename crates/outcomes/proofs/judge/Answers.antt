-- `judge` meets its contract: a plan's number is 0 exactly if no plan beats the pair.
-- Assumes nothing.
use native.Mathlib.Omega.{arith}
use lib.ListN.{take}
use Rattle.schedule.proofs.SignedWords.{lowered_word}
use Rattle.listing.specs.Fronts.{pair_at, pairs_of}
use Rattle.outcomes.proofs.Answered.{judge_none, judge_some}
use Rattle.outcomes.proofs.judge.Goals as goal

pub returns-then-plan-eq0 : goal.returns-then-plan-eq0
returns-then-plan-eq0 c =
    let b = c.first_beating-plan in
    let w = c.lower-late in
    let a = c.args in
    let d = a.desk in
    judge_none (pairs_of (take a.count a.ends.now) (take a.count a.lates.now)) (pair_at d.minute d.worst) _ b.result
    (lowered_word d.worst w.result (omega arith) w.ensures) b.ensures c.if-plan-eq0.true

pub returns : goal.returns
returns c =
    let b = c.first_beating-plan in
    let w = c.lower-late in
    let a = c.args in
    let d = a.desk in
    judge_some (pairs_of (take a.count a.ends.now) (take a.count a.lates.now)) (pair_at d.minute d.worst) _ b.result
    (lowered_word d.worst w.result (omega arith) w.ensures) b.ensures c.if-plan-eq0.false
