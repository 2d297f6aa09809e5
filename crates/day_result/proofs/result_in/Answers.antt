-- `result_in` meets its contract: the verdict, and the idle minutes by the posting's end.
-- Assumes nothing.
use Rattle.std.proofs.Common.{Ok}
use mathlib.Core.Path.{ap, ◌∙◌}
use borrow.Author.Rules.{rules}
use native.Mathlib.Omega.{arith}
use Rattle.day_result.specs.DayResults.{result_of}
use Rattle.day_result.proofs.Idle.{own_idle, idle_found}
use Rattle.day_result.proofs.result_in.Goals as goal

pub verdict_in-requires : goal.verdict_in-requires
verdict_in-requires c = c.requires

pub idle_by-requires : goal.idle_by-requires
idle_by-requires c =
    let sum = own_idle _ _ _ c.requires c.args.posting.now _ _ c.verdict_in.ensures (c.in-Ok.is ∙ ap Ok c.in-Unbeaten.is) in
    (c.requires.few, c.requires.limits.lengths, omega (arith, sum))

pub idle_by-requires-in-Beaten : goal.idle_by-requires-in-Beaten
idle_by-requires-in-Beaten c =
    let sum = own_idle _ _ _ c.requires c.args.posting.now _ _ c.verdict_in.ensures (c.in-Ok.is ∙ ap Ok c.in-Beaten.is) in
    (c.requires.few, c.requires.limits.lengths, omega (arith, sum))

pub returns-in_default : goal.returns-in_default
unfolding result_of
returns-in_default c =
    idle_found _ _ _ c.requires c.args.posting.now _ _ c.verdict_in.ensures c.in_default.is 0 tt

pub returns-in-Unbeaten : goal.returns-in-Unbeaten
unfolding result_of
returns-in-Unbeaten c =
    let e = idle_found _ _ _ c.requires c.args.posting.now _ _ c.verdict_in.ensures (c.in-Ok.is ∙ ap Ok c.in-Unbeaten.is)
    c.idle_by.result c.idle_by.ensures in
    search rules

pub returns-in-Beaten : goal.returns-in-Beaten
unfolding result_of
returns-in-Beaten c =
    let e = idle_found _ _ _ c.requires c.args.posting.now _ _ c.verdict_in.ensures (c.in-Ok.is ∙ ap Ok c.in-Beaten.is)
    c.idle_by-in-Beaten.result c.idle_by-in-Beaten.ensures in
    search rules
