-- `days_answer` meets its contract: the buffer, then the choice, then its orders.
-- Assumes nothing.
use native.Mathlib.Omega.{arith}
use mathlib.Core.Path.{ap, ◌∙◌}
use Rattle.std.specs.Prelude.{Err}
use Rattle.schedule.proofs.SignedWords.{lowered_word}
use Rattle.several.proofs.Days.{listed, all_rows_lem, answer_narrow, answer_none, plans_taken, sum_kept, can_order, answer_chosen}
use Rattle.several.proofs.Outcomes.{answers}
use Rattle.several.proofs.days_answer.Goals as goal

pub returns-then-res-total : goal.returns-then-res-total
returns-then-res-total c =
    let a = c.args in
    λ opening ds r.
    answers a.res.now (ap Err c.refused.ensures) ∙
    answer_narrow opening ds a.free.now a.rows.now a.plans.now a.columns.now a.fronts.now
    a.closings.now a.total r c.requires.0 a.limit a.res.now c.if-res-total.true

pub choose-requires : goal.choose-requires
choose-requires c =
    let a = c.args in (
      c.requires.0,
      c.requires.1,
      listed c.requires.2.0 c.requires.2.1 a.free.now a.rows.now a.plans.now a.columns.now
          a.fronts.now
          a.closings.now a.total c.requires.2.2,
    )

pub returns-in_default : goal.returns-in_default
returns-in_default c =
    let if1 = c.if-res-total in
    let choose = c.choose in
    let a = c.args in
    λ opening ds r.
    answers a.res.now (ap Err c.refused-in_default.ensures) ∙
    answer_none opening ds a.free.now a.rows.now a.plans.now a.columns.now a.fronts.now
    a.closings.now a.total r c.requires.0 a.limit a.res.now if1.false _ choose.ensures c.in_default.is

pub write_orders-requires : goal.write_orders-requires
write_orders-requires c =
    let choose = c.choose in
    let if1 = c.if-res-total in
    let a = c.args in
    let k = plans_taken c.requires.2.0 c.requires.2.1 a.free.now a.rows.now a.plans.now a.columns.now a.fronts.now
    a.closings.now a.total c.requires.2.2 c.requires.0
    a.limit a.res.now _ choose.ensures _ _ c.in-Some.is in
    let rows = all_rows_lem c.requires.2.0 c.requires.2.1 a.free.now a.rows.now a.plans.now a.columns.now
    a.fronts.now
    a.closings.now a.total c.requires.2.2 in (
      c.requires.1,
      can_order c.requires.2.0 c.requires.2.1 a.free.now a.rows.now a.plans.now a.columns.now
          a.fronts.now
          a.closings.now a.total c.requires.2.2 c.requires.0 a.limit a.res.now _ _ k,
      omega (arith, if1.false, rows),
    )

pub overflow_cast-result : goal.overflow_cast-result
overflow_cast-result c =
    let choose = c.choose in
    let a = c.args in
    let k = plans_taken c.requires.2.0 c.requires.2.1 a.free.now a.rows.now a.plans.now a.columns.now a.fronts.now
    a.closings.now a.total c.requires.2.2 c.requires.0
    a.limit a.res.now _ choose.ensures _ _ c.in-Some.is in
    let m = sum_kept c.requires.2.0 c.requires.2.1 a.free.now a.rows.now a.plans.now a.columns.now a.fronts.now
    a.closings.now a.total c.requires.2.2 c.requires.0 a.limit a.res.now _ _ k in
    record { fits = omega (arith, m) }

pub returns : goal.returns
returns c =
    let y = lowered_word c.in-Some.taken.late c.lower.result (omega arith)
    c.lower.ensures in
    let choose = c.choose in
    let if1 = c.if-res-total in
    let write-orders = c.write_orders in
    let a = c.args in
    λ opening ds r.
    let k = plans_taken opening ds a.free.now a.rows.now a.plans.now a.columns.now a.fronts.now
    a.closings.now a.total r c.requires.0
    a.limit a.res.now _ choose.ensures _ _ c.in-Some.is in
    answer_chosen opening ds a.free.now a.rows.now a.plans.now a.columns.now a.fronts.now
    a.closings.now a.total r c.requires.0 a.limit a.res.now _ _ k if1.false _ y _ write-orders.ensures
