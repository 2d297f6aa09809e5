-- What makes the calls on what is planned keep their promise.
-- Assumes nothing.
use Prim.Native.Nat.{ℕ}
use mathlib.Core.Path.{◌≡◌}
use mathlib.Core.List.{List}
use mathlib.Core.Logic.{◌↔◌}
use Rattle.std.specs.Prelude.{Ok}
use Rattle.schedule.specs.Rows.{count_from}
use Rattle.schedule.specs.Desk.{OrderOf}
use Rattle.schedule.specs.Plans.{plans}
use Rattle.schedule.specs.Cover.{Fits32, PlansPromise}
use Rattle.schedule.proofs.Orders.{perm_orders, orders_perm, orders_length}
use Rattle.schedule.proofs.Numbers.{length_count}
use Rattle.postings.specs.Posting.{posting_tests}
use Rattle.postings.proofs.Orders.{posting_order, order_posting}
use Rattle.outcomes.specs.Planning.{Planning}

-- Latenesses are signed 32-bit numbers, the list is the list by its definition, and the orders for a bound are best.
pub record Sound (g : Planning) : Type 0 where
  pub fits : Fits32 g.job g.minute g.left
  pub front : g.plans ≡ plans g.job g.minute g.left
  pub promise : PlansPromise g.job g.minute g.left g.orders

-- A posting passes its tests exactly if it is an order of the rows 1 to n.
pub posted : (n : ℕ) (posting : List ℕ) → (posting_tests n posting ≡ Ok tt) ↔ OrderOf (count_from 1 n) posting
posted n posting = (
  λ e. orders_perm n (count_from 1 n) posting (length_count 1 n) (posting_order n posting (length_count 1 n) e),
  λ o. let t = perm_orders n (count_from 1 n) posting (length_count 1 n) o in
      order_posting n posting (orders_length n (count_from 1 n) posting t) t,
)
