-- `order_by_rank` meets its contract: the search over the rows by rank answers for the rows, and the order is written as rows.
-- Assumes nothing.
use borrow.Author.Rules.{rules}
use mathlib.Core.Path.{refl}
use Rattle.plans.proofs.Ranked.{limits_ranked, tables, ordered_over, ranks_high, ordered_kept}
use Rattle.plans.proofs.order_by_rank.Goals as goal

pub tables-requires : goal.tables-requires
tables-requires c = record { limits = c.requires.limits; n_le_most_rows = (c.requires.le_n.1, refl, refl, refl, refl, refl) }

pub plan_for-s-requires : goal.plan_for-s-requires
plan_for-s-requires c =
    let t = c.tables.ensures in record { limits = limits_ranked t c.requires.limits; tables = tables t c.requires.limits c.requires.le_n.1; le_n = (c.requires.le_n.0, c.requires.le_n.2, search rules) }

pub returns-then-bound-s : goal.returns-then-bound-s
returns-then-bound-s c =
    let t = c.tables.ensures in
    ordered_over t c.requires.limits c.requires.le_n.0 c.requires.le_n.1 _ _ _ _ _ c.plan_for-s.ensures c.if-bound-s.true

pub write_order-requires : goal.write_order-requires
write_order-requires c =
    let t = c.tables.ensures in
    let a = c.args in
    let s = c.plan_for-s.ensures in
    (c.requires.le_n.1, c.requires.le_n.3, s.places, ranks_high t c.requires.limits c.requires.le_n.0 c.requires.le_n.1 _ _ a.out.now _ _ s c.if-bound-s.false)

pub returns : goal.returns
returns c =
    let t = c.tables.ensures in
    let low = c.if-bound-s.false in
    ordered_kept t c.requires.limits c.requires.le_n.0 c.requires.le_n.1 _ _ _ _ _ c.plan_for-s.ensures low _ c.write_order.ensures
