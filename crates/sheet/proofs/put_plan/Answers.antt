-- `put_plan` meets its contract: the numbers that come back are those of the line.
-- Assumes nothing.
use Prim.Native.Nat.{ℕ}
use native.Mathlib.Omega.{arith}
use native.Mathlib.Nat.{le_refl}
use mathlib.Core.Path.{sym, ap, ◌∙◌}
use mathlib.Core.List.{List, map}
use lib.ListN.{length, take, drop, get_or}
use lib.Seq.{length-take-le}
use Rattle.results.specs.Results.{signed}
use Rattle.calls.specs.Calls.{bound_call}
use Rattle.sheet.specs.Printing.{slate_terms}
use Rattle.lines.specs.LineBytes.{plan_line}
use Rattle.lines.proofs.Adding.{same_added}
use Rattle.sheet.proofs.Standing.{front_blank, lent_front, lent_room, lent_count}
use Rattle.sheet.proofs.put_plan.Goals as goal

pub slice_bounds-order_numbers-end : goal.slice_bounds-order_numbers-end
slice_bounds-order_numbers-end c = sym (length-take-le c.args.rows c.no_order-order.result
    (omega arith))

pub slice_bounds-order-end-2 : goal.slice_bounds-order-end-2
slice_bounds-order-end-2 c =
    let n = c.args.rows in
    let b = c.no_order-order.result in
    lent_room n c.order_numbers.new.order (drop n b) (c.order_numbers.ensures.order_len_unchanged ∙ length-take-le n b (omega arith))

pub slice_bounds-plan_line-end : goal.slice_bounds-plan_line-end
slice_bounds-plan_line-end c =
    let n = c.args.rows in
    let b = c.no_order-order.result in
    lent_count n c.order_numbers.new.order (drop n b) (c.order_numbers.ensures.order_len_unchanged ∙ length-take-le n b (omega arith))

pub plan_line-requires : goal.plan_line-requires
plan_line-requires c =
    let n = c.args.rows in
    let b = c.no_order-order.result in
    let e = length-take-le n b (omega arith) in
    let f = lent_front n c.order_numbers.new.order (drop n b) (c.order_numbers.ensures.order_len_unchanged ∙ e) in
    (omega (arith, ap length f, c.order_numbers.ensures.order_len_unchanged, e), c.requires.2)

pub returns : goal.returns
returns c =
    let a = c.args in
    let n = a.rows in
    let b = c.no_order-order.result in
    let e = length-take-le n b (omega arith) in
    let f = lent_front n c.order_numbers.new.order (drop n b) (c.order_numbers.ensures.order_len_unchanged ∙ e) in
    let blank = ap (take n) c.no_order-order.ensures.1 ∙ front_blank n 256 (omega arith) in
    let named = ap (λ (ws : List ℕ). map (λ i. get_or a.numbers.now i 0)
    (bound_call slate_terms a.book.now (signed a.late) ws).buffer) blank in
    same_added (le_refl 2900) (ap (plan_line a.plan a.end (signed a.late)) (f ∙ (c.order_numbers.ensures.order_after ∙ named)))
    c.plan_line.ensures
