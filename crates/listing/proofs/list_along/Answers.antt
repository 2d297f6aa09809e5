-- `list_along` meets its contract: what is listed so far, and what smaller bounds still give, is the list of plans. The bound falls.
-- Assumes nothing.
use borrow.Author.Rules.{rules}
use Prim.Native.Nat.{ℕ}
use mathlib.Core.Path.{refl, sym, ◌∙◌}
use native.Mathlib.Omega.{arith}
use lib.ListN.{length-replicate}
use Rattle.schedule.specs.Limits.{most_rows}
use Rattle.schedule.specs.Columns.{columns}
use Rattle.listing.proofs.Lists.{listing_first, listing_last, listing_room, listing_next}
use Rattle.listing.proofs.PlanFor.{answered, lowers}
use Rattle.listing.proofs.list_along.Goals as goal

pub set_out-reached-requires : goal.set_out-reached-requires
set_out-reached-requires c = record { limits = c.requires.limits; tables = c.requires.tables; ends_in_time = (c.requires.le_n.1, search rules, c.requires.le_n.2) }

pub loop-desk-init : goal.loop-desk-init
loop-desk-init c =
    let a = c.args in
    let job = columns a.release.now a.minutes.now a.due.now in
    let o = c.set_out-reached.ensures in (
      o.0,
      o.1,
      o.2,
      listing_first job a.n a.free _ refl (length-replicate {A = ℕ} most_rows 0)
          (length-replicate {A = ℕ} most_rows 0),
      refl,
    )

pub returns-in_default : goal.returns-in_default
returns-in_default c =
    let a = c.args in
    let l = c.loop-desk in
    let job = columns a.release.now a.minutes.now a.due.now in
    let says = sym c.answer.ensures ∙ c.in_default.is in
    listing_last job a.n a.free c.requires.limits c.requires.le_n.0 c.requires.tables.few c.requires.le_n.1 c.requires.le_n.3 _ _ l.invariant.3
    (answered _ _ _ c.requires.limits _ c.requires.le_n.0 c.requires.tables.few _ _ _ l.invariant.2 _ says)

pub put_pair-count-requires : goal.put_pair-count-requires
put_pair-count-requires c =
    let a = c.args in
    let l = c.loop-desk in
    let job = columns a.release.now a.minutes.now a.due.now in
    let says = sym c.answer.ensures ∙ c.in-Some.is in
    let w = answered _ _ _ c.requires.limits _ c.requires.le_n.0 c.requires.tables.few _ _ _ l.invariant.2 _ says in
    listing_room job a.n a.free c.requires.limits c.requires.le_n.0 c.requires.tables.few c.requires.le_n.1 c.requires.le_n.3
    (record { count = l.count; ends = l.ends; lates = l.lates }) l.bound l.invariant.3 c.in-Some.desk w

pub overflow_sub-bound : goal.overflow_sub-bound
overflow_sub-bound c =
    let a = c.args in
    let l = c.loop-desk in
    let job = columns a.release.now a.minutes.now a.due.now in
    let says = sym c.answer.ensures ∙ c.in-Some.is in
    let w = answered _ _ _ c.requires.limits _ c.requires.le_n.0 c.requires.tables.few _ _ _ l.invariant.2 _ says in
    omega (arith, w.bounded)

pub resume-reached-requires : goal.resume-reached-requires
resume-reached-requires c =
    let a = c.args in
    let l = c.loop-desk in
    let job = columns a.release.now a.minutes.now a.due.now in
    let says = sym c.answer.ensures ∙ c.in-Some.is in
    let w = answered _ _ _ c.requires.limits _ c.requires.le_n.0 c.requires.tables.few _ _ _ l.invariant.2 _ says in record { limits = c.requires.limits; tables = c.requires.tables; order_len = (l.invariant.0, l.invariant.1, (a.free, l.bound, lowers _ _ _ c.requires.limits _ _ _ _ l.invariant.2 _ says w.bounded.0)) }

pub loop-desk-smaller : goal.loop-desk-smaller
loop-desk-smaller c =
    let a = c.args in
    let l = c.loop-desk in
    let job = columns a.release.now a.minutes.now a.due.now in
    let says = sym c.answer.ensures ∙ c.in-Some.is in
    let w = answered _ _ _ c.requires.limits _ c.requires.le_n.0 c.requires.tables.few _ _ _ l.invariant.2 _ says in
    omega (arith, w.bounded)

pub loop-desk-preserved : goal.loop-desk-preserved
loop-desk-preserved c =
    let a = c.args in
    let l = c.loop-desk in
    let job = columns a.release.now a.minutes.now a.due.now in
    let says = sym c.answer.ensures ∙ c.in-Some.is in
    let w = answered _ _ _ c.requires.limits _ c.requires.le_n.0 c.requires.tables.few _ _ _ l.invariant.2 _ says in
    let r = c.resume-reached in (
      r.ensures.0,
      r.ensures.1,
      r.ensures.2 a.free l.bound (lowers _ _ _ c.requires.limits _ _ _ _ l.invariant.2 _ says w.bounded.0),
      listing_next job a.n a.free c.requires.limits c.requires.le_n.0 c.requires.tables.few c.requires.le_n.1 c.requires.le_n.3
          (record { count = l.count; ends = l.ends; lates = l.lates }) l.bound l.invariant.3 c.in-Some.desk w _
          c.put_pair-count.ensures,
      r.auto.trail ∙ l.invariant.4,
    )
