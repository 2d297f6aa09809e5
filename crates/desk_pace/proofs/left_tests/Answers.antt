-- `left_tests` meets its contract: the numbers of the rows left, the columns by these, the test of the columns, and the own place of the
-- row that a refusal tells. Assumes nothing.
use native.Mathlib.Omega.{arith}
use Prim.Native.Nat.{ℕ}
use mathlib.Core.Path.{◌≡◌, refl, sym, ap, ◌∙◌, subst}
use Rattle.std.specs.Prelude.{Err}
use Rattle.schedule.specs.declared.Profile.TheVariants.{Ordering}
use Rattle.refusals.specs.Tests.{refusal_at}
use Rattle.pairs.specs.Pairs.{number_word}
use Rattle.readers.specs.Rules.{rule_tests}
use Rattle.running.specs.Words.{running, KeepsPages}
use Rattle.running.proofs.Fits.{keeps_says}
use Rattle.rows_left.proofs.Gathering.{few_left, rows_small}
use Rattle.desk_pace.specs.Paces.{left_by_pace}
use Rattle.desk_pace.proofs.LeftTests.{TellsRow, tells_row, back_passed, back_refused, pages_small, within, told, own_row, own_fits}
use Rattle.desk_pace.proofs.left_tests.Goals as goal
use Rattle.desk_pace.proofs.left_tests.Goals.{In-Err}

pub numbers_left-count-requires : goal.numbers_left-count-requires
numbers_left-count-requires c = let desk = ((keeps_says _).0 c.requires.0).desk in (desk.long, desk.count.1, refl)

pub column_left-requires : goal.column_left-requires
column_left-requires c =
    let desk = ((keeps_says _).0 c.requires.0).desk in
    let n = c.numbers_left-count.ensures in
    (few_left desk n.0, omega arith, desk.long, rows_small _ n.0 n.1 desk, refl)

pub lengths_left-requires : goal.lengths_left-requires
lengths_left-requires c =
    let pre = c.requires in
    let keeps = ((keeps_says _).0 c.requires.0) in
    let desk = keeps.desk in
    let n = c.numbers_left-count.ensures in (
      few_left desk n.0,
      pre.1,
      pre.2,
      desk.long,
      rows_small _ n.0 n.1 desk,
      pages_small _ keeps _ (pre.1, pre.2) n.0 n.1,
      refl,
    )

pub column_left-requires-2 : goal.column_left-requires-2
column_left-requires-2 c =
    let desk = ((keeps_says _).0 c.requires.0).desk in
    let n = c.numbers_left-count.ensures in
    (few_left desk n.0, omega arith, desk.long, rows_small _ n.0 n.1 desk, refl)

pub rule_tests-rule-requires : goal.rule_tests-rule-requires
rule_tests-rule-requires c =
    let pre = c.requires in
    let keeps = ((keeps_says _).0 c.requires.0) in
    let n = c.numbers_left-count.ensures in
    let f = c.column_left.ensures in
    let g = c.lengths_left.ensures in
    let h = c.column_left-2.ensures in
    (few_left keeps.desk n.0, f.sized, g.sized, h.sized, within _ keeps _ (pre.1, pre.2) n.0 n.1 f g h)

-- What the rule of the columns refuses, the rule of the rows left does; and it tells one of them.
module _ (c : In-Err) where
  keeps : KeepsPages c.args.desk.now
  keeps = (keeps_says _).0 c.requires.0

  refused : rule_tests Ordering (left_by_pace (running c.args.desk.now) c.args.pace) ≡ Err c.in-Err.refusal
  refused =
      let pre = c.requires in
      let n = c.numbers_left-count.ensures in
      sym (told _ keeps _ (pre.1, pre.2) n.0 n.1 _ _ _ c.column_left.ensures c.lengths_left.ensures c.column_left-2.ensures
      c.rule_tests-rule.result c.rule_tests-rule.ensures) ∙ c.in-Err.is

  tells : TellsRow c.numbers_left-count.result c.in-Err.refusal.place
  tells =
      subst (λ (n : ℕ). TellsRow n c.in-Err.refusal.place) (sym c.numbers_left-count.ensures.0)
      (tells_row (running c.args.desk.now) c.args.pace c.in-Err.refusal refused)

pub own_place-requires : goal.own_place-requires
own_place-requires c =
    let pre = c.requires in
    let n = c.numbers_left-count.ensures in
    let keeps = (keeps_says _).0 pre.0 in
    own_fits _ keeps _ (pre.1, pre.2) n.0 n.1 c.in-Err.refusal.place (tells (goal.at.own_place-requires c).In-Err) (few_left keeps.desk n.0)

pub returns-in-Ok : goal.returns-in-Ok
returns-in-Ok c =
    let a = c.args in
    let pre = c.requires in
    let n = c.numbers_left-count.ensures in
    sym (back_passed (running a.desk.now) a.pace (sym (told _ ((keeps_says _).0 pre.0) _ (pre.1, pre.2) n.0 n.1 _ _ _ c.column_left.ensures
    c.lengths_left.ensures c.column_left-2.ensures c.rule_tests-rule.result c.rule_tests-rule.ensures) ∙ c.in-Ok.is))

pub returns-in-Err : goal.returns-in-Err
returns-in-Err c =
    let a = c.args in
    let pre = c.requires in
    let n = c.numbers_left-count.ensures in
    let step = (goal.at.returns-in-Err c).In-Err in
    let own = own_row _ ((keeps_says _).0 pre.0) _ (pre.1, pre.2) n.0 n.1 c.in-Err.refusal.place (tells step) in
    ap (λ (p : ℕ). Err (refusal_at c.in-Err.refusal.number p)) (c.own_place.ensures ∙ ap number_word own) ∙
    sym (back_refused (running a.desk.now) a.pace c.in-Err.refusal (refused step))
