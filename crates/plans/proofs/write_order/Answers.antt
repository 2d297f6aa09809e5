-- `write_order` meets its contract: the entries passed are the rows of the order's ranks, and the others are as they were.
-- Assumes nothing.
use borrow.Author.Rules.{rules}
use Prim.Native.Nat.{ℕ}
use mathlib.Core.Path.{◌≡◌, refl, ap, ◌∙◌}
use mathlib.Core.List.{List, ◌++◌, map}
use native.Mathlib.Omega.{arith}
use lib.ListN.{take, drop, set}
use Rattle.schedule.specs.Columns.{at}
use Rattle.arrival.proofs.Orders.{write_next}
use Rattle.plans.proofs.write_order.Goals as goal

pub loop-i-init : goal.loop-i-init
loop-i-init c = (refl, refl)

pub overflow_cast-out : goal.overflow_cast-out
overflow_cast-out c = record { fits = omega (arith, c.requires.3 c.loop-i.i (omega arith)) }

pub offset_bounds-rows-order : goal.offset_bounds-rows-order
offset_bounds-rows-order c = record { fits = omega (arith, c.requires.3 c.loop-i.i (omega arith)) }

pub bounds-rows-order : goal.bounds-rows-order
bounds-rows-order c = omega (arith, c.requires.3 c.loop-i.i (omega arith))

pub loop-i-preserved : goal.loop-i-preserved
loop-i-preserved c =
    let a = c.args in
    let l = c.loop-i in (
      search rules,
      ap (λ (x : List ℕ). set x l.i (at a.rows.now (at a.order.now l.i))) l.invariant.1 ∙
          write_next (at a.rows.now) a.order.now a.out.now l.i (omega arith) (omega arith),
    )

pub returns : goal.returns
returns c =
    let a = c.args in
    let l = c.loop-i in
    let e : l.i ≡ a.k = omega arith in
    l.invariant.1 ∙ ap (λ (j : ℕ). map (at a.rows.now) (take j a.order.now) ++ drop j a.out.now) e
