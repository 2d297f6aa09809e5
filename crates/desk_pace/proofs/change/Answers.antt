-- `change` meets its contract: no desk, a pace outside, rows left that disagree; otherwise the words after the change.
-- Assumes nothing.
use mathlib.Core.Bool.{not}
use mathlib.Core.Path.{◌≡◌, sym, ap, ◌∙◌}
use borrow.Author.Rules.{rules}
use Rattle.std.specs.Prelude.{Ok}
use Rattle.refusals.specs.Refusals.{by_range}
use Rattle.refusals.specs.Tests.{refusal_at}
use Rattle.refusals.proofs.Tests.{handed_on}
use Rattle.schedule.specs.Limits.{least_pace, most_pace}
use Rattle.running.specs.Running.{between}
use Rattle.outcomes.specs.Planning.{gives}
use Rattle.desk_pace.specs.Paces.{PaceAnswer}
use Rattle.desk_pace.proofs.PaceLaws.{tests_outside, tests_inside, pace_none, pace_no, pace_yes}
use Rattle.desk_pace.proofs.change.Goals as goal

pub returns-then-not-keeps_pages : goal.returns-then-not-keeps_pages
returns-then-not-keeps_pages c = sym (pace_none _ _ (sym c.keeps_pages.ensures ∙ c.if-not-keeps_pages.true))

pub returns-then-not-contains : goal.returns-then-not-contains
returns-then-not-contains c =
    let a = c.args in
    let told : c.contains.result ≡ between least_pace most_pace a.pace = search rules in
    sym (pace_no _ _ (sym c.keeps_pages.ensures ∙ c.if-not-keeps_pages.false) (refusal_at by_range 0)
    (tests_outside _ _ (ap not (sym told ∙ c.if-not-contains.true))))

pub returns-in_err-left_tests : goal.returns-in_err-left_tests
returns-in_err-left_tests c =
    let a = c.args in
    let told : c.contains.result ≡ between least_pace most_pace a.pace = search rules in
    ap (λ (r : PaceAnswer). gives r a.desk.now) (handed_on c.from_residual.result c.from_residual.ensures.1) ∙
    sym (pace_no _ _ (sym c.keeps_pages.ensures ∙ c.if-not-keeps_pages.false) c.in_err-left_tests.field-0.0
    (tests_inside _ _ (ap not (sym told ∙ c.if-not-contains.false)) ∙ sym c.left_tests.ensures ∙ c.in_err-left_tests.was))

pub returns : goal.returns
returns c =
    let a = c.args in
    let told : c.contains.result ≡ between least_pace most_pace a.pace = search rules in
    ap (gives (Ok tt)) c.store.ensures ∙
    sym (pace_yes _ _ (sym c.keeps_pages.ensures ∙ c.if-not-keeps_pages.false)
    (tests_inside _ _ (ap not (sym told ∙ c.if-not-contains.false)) ∙ sym c.left_tests.ensures ∙ c.in_ok-left_tests.was))
