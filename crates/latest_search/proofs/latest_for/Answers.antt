-- `latest_for` meets its contract: what is found of the rows by rank answers for the rows, and the order is written as rows.
-- Assumes nothing.
use mathlib.Core.Path.{refl, subst}
use Rattle.plans.proofs.Ranked.{limits_ranked, tables}
use Rattle.latest_search.specs.Found.{Halved}
use Rattle.latest_search.proofs.Given.{given_never, order_long, order_high, given_found}
use Rattle.latest_search.proofs.latest_for.Goals as goal

pub tables-requires : goal.tables-requires
tables-requires c = record { limits = c.requires.limits; n_le_most_rows = (c.requires.le_n.1, refl, refl, refl, refl, refl) }

pub halve-requires : goal.halve-requires
halve-requires c =
    let t = c.tables.ensures in
    record {
      limits = limits_ranked t c.requires.limits;
      tables = tables t c.requires.limits c.requires.le_n.1;
      le_n = c.requires.le_n.0;
    }

pub returns-in_err-found : goal.returns-in_err-found
returns-in_err-found c =
    let q = c.requires.le_n in
    let t = c.tables.ensures in
    let never = subst (Halved _ _ _ _) c.in_err-found.was c.halve.ensures in
    rw c.from_residual.ensures (given_never t c.requires.limits _ _ q.0 q.1 q.2 _ never)

pub write_order-requires : goal.write_order-requires
write_order-requires c =
    let q = c.requires.le_n in
    let out = c.args.out.now in
    let t = c.tables.ensures in
    let h = subst (Halved _ _ _ _) c.in_ok-found.was c.halve.ensures in
    let long = order_long t c.requires.limits _ _ q.0 q.1 q.2 out _ h in
    let high = order_high t c.requires.limits _ _ q.0 q.1 q.2 out _ h in
    (q.1, q.3, long, high)

pub returns : goal.returns
returns c =
    let q = c.requires.le_n in
    let t = c.tables.ensures in
    let h = subst (Halved _ _ _ _) c.in_ok-found.was c.halve.ensures in
    given_found t c.requires.limits _ _ q.0 q.1 q.2 _ _ h _ c.write_order.ensures
