-- `latest_in` meets its contract: too short a buffer, then what the search finds.
-- Assumes nothing.
use native.Mathlib.Omega.{arith}
use mathlib.Core.Path.{sym, ap, ◌∙◌}
use Rattle.std.specs.Result.{result_ok}
use Rattle.schedule.specs.Offset.{lowered}
use Rattle.schedule.proofs.SignedWords.{lowered_word}
use Rattle.refusals.proofs.Tests.{handed_on}
use Rattle.outcomes.specs.Planning.{gives}
use Rattle.latest_free.proofs.Columns.{answer_narrow, answer_never, answer_from}
use Rattle.latest_free.proofs.latest_in.Goals as goal

pub returns-then-res-n : goal.returns-then-res-n
returns-then-res-n c =
    let a = c.args in
    answer_narrow c.requires (lowered a.end) (lowered a.bound) a.res.now c.if-res-n.true

pub latest_for-found-requires : goal.latest_for-found-requires
latest_for-found-requires c =
    let p = c.requires in record { limits = p.limits; le_n = (p.low, p.few, p.rule, c.if-res-n.false) }

pub returns-in_err-latest : goal.returns-in_err-latest
returns-in_err-latest c =
    let a = c.args in
    let o = c.latest_for-found in
    let refused = sym c.ok_or.ensures.value ∙ c.in_err-latest.was in
    ap (λ r. gives r o.new.out) (handed_on c.from_residual.result c.from_residual.ensures.1) ∙
    answer_never c.requires (lowered a.end) (lowered a.bound) a.res.now c.if-res-n.false o.result _ o.ensures _ refused

pub returns : goal.returns
returns c =
    let a = c.args in
    let o = c.latest_for-found in
    let found = c.ok_or.ensures.ok_part ∙ ap result_ok c.in_ok-latest.was in
    let late = c.in_ok-latest.latest.late in
    answer_from c.requires (lowered a.end) (lowered a.bound) a.res.now c.if-res-n.false o.result _ o.ensures c.in_ok-latest.latest found _
    (lowered_word late c.lower.result (omega arith) c.lower.ensures)
