-- `with_day` meets its contract: the case of the result, and what it adds.
-- Assumes nothing.
use borrow.Author.Rules.{rules}
use Prim.Native.Nat.{◌+◌}
use Rattle.totals.specs.declared.Totals.{Totals}
use native.Mathlib.Omega.{arith}
use mathlib.Core.Path.{sym, ap, ◌∙◌}
use mir.Syntax.{w32}
use mir.Val.{SFits}
use Rattle.day_result.specs.declared.DayResult.{DayResult}
use Rattle.totals.specs.Report.{with_day}
use Rattle.totals.specs.Held.{report_by}
use Rattle.totals.proofs.Held.{refused_more, accepted_more}
use Rattle.totals.proofs.Totals.with_day.Goals as goal

pub returns-in-Refused : goal.returns-in-Refused
returns-in-Refused c =
    let t = c.args.self in
    (refused_more t ∙ ap (λ (d : DayResult). with_day d (report_by t)) (sym c.in-Refused.is), search rules, omega arith)

pub returns-in-Unbeaten : goal.returns-in-Unbeaten
returns-in-Unbeaten c =
    let t = c.args.self in
    let w = c.with_accepted in
    let f : SFits w32 c.in-Unbeaten.late = search rules in
    let e = w.ensures in
    let more = accepted_more t w.result 0 c.in-Unbeaten.idle c.raise.result c.in-Unbeaten.late f c.raise.ensures
    e.0 e.1 (omega (arith, e.2)) e.3 e.4 in
    (more ∙ ap (λ (d : DayResult). with_day d (report_by t)) (sym c.in-Unbeaten.is), search rules, omega arith)

pub returns-in-Beaten : goal.returns-in-Beaten
returns-in-Beaten c =
    let t = c.args.self in
    let w = c.with_accepted-accepted in
    let f : SFits w32 c.in-Beaten.late = search rules in
    let e = w.ensures in
    let r : Totals = record {
      accepted = w.result.accepted;
      refused = w.result.refused;
      beaten = w.result.beaten + 1;
      idle = w.result.idle;
      late = w.result.late;
    } in
    let more = accepted_more t r 1 c.in-Beaten.idle c.raise-in-Beaten.result c.in-Beaten.late f c.raise-in-Beaten.ensures
    e.0 e.1 (omega (arith, e.2)) e.3 e.4 in
    (more ∙ ap (λ (d : DayResult). with_day d (report_by t)) (sym c.in-Beaten.is), search rules, omega arith)
