-- `start_tests` meets its contract: unlisted, then done, then early.
-- Assumes nothing.
use native.Mathlib.Omega.{arith}
use mathlib.Core.Bool.{not}
use Rattle.std.proofs.Math.Bool.{or_assoc}
use mathlib.Core.Path.{◌≡◌, sym, ap, ◌∙◌}
use borrow.Author.Rules.{rules}
use Rattle.schedule.specs.Columns.{at}
use Rattle.refusals.proofs.Tests.{handed_on, then_refused, then_passed}
use Rattle.running.specs.Running.{between}
use Rattle.running.proofs.Fits.{desk_says}
use Rattle.desk_start.proofs.StartLaws.{row_listed, tests_unlisted, tests_listed}
use Rattle.desk_start.proofs.start_tests.Goals as goal

pub bounds-desk-0 : goal.bounds-desk-0
bounds-desk-0 c = omega (arith, ((desk_says _).0 c.requires).long)

pub overflow_cast-result : goal.overflow_cast-result
overflow_cast-result c = omega (arith, ((desk_says _).0 c.requires).count)

pub returns-then-not-contains : goal.returns-then-not-contains
returns-then-not-contains c =
    let a = c.args in
    let told : c.contains.result ≡ between 1 (at a.desk.now 0) a.row = search rules in
    tests_unlisted a.desk.now a.row a.minute (ap not (sym told ∙ c.if-not-contains.true))

pub bounds-desk-i : goal.bounds-desk-i
bounds-desk-i c =
    let a = c.args in
    let d = (desk_says _).0 c.requires in
    let told : c.contains.result ≡ between 1 (at a.desk.now 0) a.row = search rules in
    omega (arith, d.long, d.count, row_listed a.desk.now a.row a.minute (ap not (sym told ∙ c.if-not-contains.false)))

pub bounds-desk-1 : goal.bounds-desk-1
bounds-desk-1 c = omega (arith, ((desk_says _).0 c.requires).long)

pub bounds-desk-i-2 : goal.bounds-desk-i-2
bounds-desk-i-2 c =
    let a = c.args in
    let d = (desk_says _).0 c.requires in
    let told : c.contains.result ≡ between 1 (at a.desk.now 0) a.row = search rules in
    omega (arith, d.long, d.count, row_listed a.desk.now a.row a.minute (ap not (sym told ∙ c.if-not-contains.false)))

pub returns-in_err-refuse_if : goal.returns-in_err-refuse_if
returns-in_err-refuse_if c =
    let a = c.args in
    let told : c.contains.result ≡ between 1 (at a.desk.now 0) a.row = search rules in
    handed_on c.from_residual.result c.from_residual.ensures.1 ∙
    sym (then_refused _ (sym c.refuse_if.ensures ∙ c.in_err-refuse_if.was)) ∙
    tests_listed a.desk.now a.row a.minute (ap not (sym told ∙ c.if-not-contains.false))

pub returns : goal.returns
returns c =
    let a = c.args in
    let told : c.contains.result ≡ between 1 (at a.desk.now 0) a.row = search rules in
    let early = rw or_assoc at c.refuse_if-2.ensures in
    early ∙ sym (then_passed _ (sym c.refuse_if.ensures ∙ c.in_ok-refuse_if.was)) ∙
    tests_listed a.desk.now a.row a.minute (ap not (sym told ∙ c.if-not-contains.false))
