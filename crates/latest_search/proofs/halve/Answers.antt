-- `halve` meets its contract. The invariant: `low` is in time and has its desk and order, and the minute after `high` is not in time. The
-- measure is how often what lies between can be halved: 24 times at most.
-- Assumes nothing.
use borrow.Author.Rules.{rules}
use native.Mathlib.Omega.{arith}
use Rattle.latest_search.proofs.Found.{not_in_time, reached_at, between_first, between_later, between_sooner}
use Rattle.latest_search.proofs.Found.{halved_found, middle_between, upper_half, lower_half}
use Rattle.latest_search.proofs.halve.Goals as goal

pub plan_for-first-requires : goal.plan_for-first-requires
plan_for-first-requires c = record {
  limits = c.requires.limits;
  tables = c.requires.tables;
  le_n = (c.requires.le_n, omega (arith, c.requires.tables.few), search rules);
}

pub returns-then-not-keeps_both : goal.returns-then-not-keeps_both
returns-then-not-keeps_both c =
    let limits = c.requires.limits in
    not_in_time _ limits _ _ _ 0 _ _ c.plan_for-first.ensures _ c.keeps_both.ensures (c.if-not-keeps_both.true)

pub loop-low-init : goal.loop-low-init
loop-low-init c =
    let limits = c.requires.limits in
    let first = c.plan_for-first.ensures in
    let test = c.keeps_both.ensures in
    (between_first _ limits _ _ _ _ _ (reached_at _ limits _ _ _ 0 _ _ first _ test (c.if-not-keeps_both.false)), first.places)

pub plan_for-s-requires : goal.plan_for-s-requires
plan_for-s-requires c =
    let l = c.loop-low.invariant in
    record {
      limits = c.requires.limits;
      tables = c.requires.tables;
      le_n = (c.requires.le_n, omega (arith, c.requires.tables.few, l.0.high_within), l.1);
    }

pub loop-low-smaller : goal.loop-low-smaller
loop-low-smaller c =
    lower_half _ _ c.loop-low-test.true c.loop-low.invariant.0.high_within

pub loop-low-preserved : goal.loop-low-preserved
loop-low-preserved c =
    let limits = c.requires.limits in
    let l = c.loop-low in
    let m = middle_between l.low l.high c.loop-low-test.true in
    let s = c.plan_for-s.ensures in
    let test = c.keeps_both-in-loop-low.ensures in
    let late = not_in_time _ limits _ _ _ _ _ _ s _ test (c.if-keeps_both.false) in
    (between_sooner _ limits _ _ _ _ _ _ _ _ l.invariant.0 m.0 m.1 late, s.places)

pub loop-low-smaller-then-keeps_both : goal.loop-low-smaller-then-keeps_both
loop-low-smaller-then-keeps_both c =
    upper_half _ _ c.loop-low-test.true c.loop-low.invariant.0.high_within

pub loop-low-preserved-then-keeps_both : goal.loop-low-preserved-then-keeps_both
loop-low-preserved-then-keeps_both c =
    let limits = c.requires.limits in
    let l = c.loop-low in
    let m = middle_between l.low l.high c.loop-low-test.true in
    let s = c.plan_for-s.ensures in
    let test = c.keeps_both-in-loop-low.ensures in
    let reached = reached_at _ limits _ _ _ _ _ _ s _ test (c.if-keeps_both.true) in
    (between_later _ limits _ _ _ _ _ _ _ _ _ _ l.invariant.0 m.1 reached, s.places)

pub returns : goal.returns
returns c =
    let limits = c.requires.limits in
    halved_found _ limits _ _ _ _ _ _ _ c.loop-low.invariant.0 (omega arith)
