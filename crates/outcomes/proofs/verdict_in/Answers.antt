-- `verdict_in` meets its contract: the refusal of the posting, then the desk after it against the list.
-- Assumes nothing.
use native.Mathlib.Omega.{arith}
use mathlib.Core.Path.{sym, ◌∙◌}
use Rattle.refusals.proofs.Tests.{handed_on}
use Rattle.outcomes.proofs.Columns.{posting_length, posting_rows}
use Rattle.outcomes.proofs.Answered.{front_sized, verdict_stray, verdict_done}
use Rattle.outcomes.proofs.verdict_in.Goals as goal

pub posting_tests-requires : goal.posting_tests-requires
posting_tests-requires c = c.requires.few

pub returns-in_err-posting_tests : goal.returns-in_err-posting_tests
returns-in_err-posting_tests c =
    handed_on c.from_residual.result c.from_residual.ensures.1 ∙
    verdict_stray c.requires c.args.posting.now c.in_err-posting_tests.field-0.0 (sym c.posting_tests.ensures ∙ c.in_err-posting_tests.was)

pub list-front-requires : goal.list-front-requires
list-front-requires c =
    let p = c.requires in record { limits = p.limits; le_n = (p.low, p.few, p.early, p.rule) }

pub follow-desk-requires : goal.follow-desk-requires
follow-desk-requires c =
    let p = c.requires in
    let passed = sym c.posting_tests.ensures ∙ c.in_ok-posting_tests.was in
    let l = posting_length p c.args.posting.now passed in record { limits = p.limits; ends_in_time = (omega (arith, l, p.early), omega (arith, l, p.few), posting_rows p c.args.posting.now passed) }

pub judge-requires : goal.judge-requires
judge-requires c =
    let l = c.list-front in
    let s = front_sized c.requires l.result l.ensures in
    (s.few, s.ends, s.lates)

pub returns : goal.returns
returns c =
    let l = c.list-front in
    let f = c.follow-desk in
    let passed = sym c.posting_tests.ensures ∙ c.in_ok-posting_tests.was in
    verdict_done c.requires l.result l.ensures c.args.posting.now passed f.result f.ensures c.judge.result
    c.judge.ensures
