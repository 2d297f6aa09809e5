-- The order for a bound keeps it and ends soonest; and the same of the pairs that the orders attain.
-- Assumes nothing.
use Prim.Native.Nat.{ℕ, ◌+◌, ◌≤◌, ◌<◌}
use native.Mathlib.Omega.{arith}
use mathlib.Core.Path.{◌≡◌, refl, sym, subst}
use mathlib.Core.List.Memᴰ
use mathlib.Core.List.{List, Memᴰ}
use mathlib.Core.Option.{Option, none, some}
use lib.Dec.{T}
use lib.ListN.{length, length-map}
use lib.IntN.{ℤ}
use Rattle.theory.specs.Jobs.{Job, In, Order}
use Rattle.theory.specs.Picks.{Agree}
use Rattle.theory.specs.Bound.{for_keeps, for_best, no_keeps}
use Rattle.theory.specs.Ends.{EndsAt, for_end}
use Rattle.schedule.specs.Desk.{Pair, end_of, pair_of, keeps}
use Rattle.schedule.specs.Picks.{order_for}
use Rattle.schedule.specs.Plans.{orders_of, attained}
use Rattle.schedule.specs.Cover.{Agreeing}
use Rattle.schedule.proofs.Orders.{orders_length, takes_orders}
use Rattle.schedule.proofs.DeskLaws.{keeps_late, late_keeps}
use Rattle.schedule.proofs.JobsOf.{jobs, jobs_end, on_jobs, jobs_order, keeps_kept, kept_keeps}
use Rattle.schedule.proofs.Signed.{◌≼◌}
use Rattle.schedule.proofs.Search.{FoundOrder, Found, order_found}

-- What is asked of the rows that are planned: they agree, and there is at least one.
pub record Plannable (job : ℕ → Job) (t : ℕ) (left : List ℕ) : Type 0 where
  pub agreeing : Agreeing job left
  pub some_row : 0 < length left

-- The order is one of those that are tried.
abbrev pub Tried : List ℕ → List ℕ → Type 0
Tried left order = Memᴰ order (orders_of (length left) left)

-- The pairs of these orders are those that are attained.
module _ (job : ℕ → Job) (t : ℕ) (left : List ℕ) where
  pub order_pair : (order : List ℕ) → Tried left order → Memᴰ (pair_of job t order) (attained job t left)
  unfolding attained
  order_pair order o = Memᴰ.map (pair_of job t) o

  pub pair_order : (p : Pair) → Memᴰ p (attained job t left) → (order : List ℕ) × Tried left order × (pair_of job t order ≡ p)
  unfolding attained
  pair_order p m = Memᴰ.of_map (pair_of job t) (orders_of (length left) left) m

-- What the order for a bound is.
pub record BestFor (job : ℕ → Job) (t : ℕ) (left : List ℕ) (y : ℤ) (order : List ℕ) : Type 0 where
  pub whole : Tried left order
  pub kept : T (keeps job y t order)
  pub soonest : (other : List ℕ) → Tried left other → T (keeps job y t other) → end_of job t order ≤ end_of job t other

module _ {job : ℕ → Job} {t : ℕ} {left : List ℕ} (a : Plannable job t left) where
  -- As the theory says it.
  agree : Agree (jobs job left)
  agree i j m n =
      on_jobs job (λ i. (j : Job) → In j (jobs job left) → i.due < j.due →
      i.release + i.length + j.due ≤ j.release + j.length + i.due) left
      (λ i m. on_jobs job (λ j. (job i).due < j.due → (job i).release + (job i).length + j.due ≤ j.release + j.length + (job i).due) left
      (λ j n. a.agreeing i j m n)) i m j n

  pub order_in : {order : List ℕ} → Tried left order → Order (jobs job order) (jobs job left)
  order_in {order} o = jobs_order job (length left) left order refl o

  pub best_for : (y : ℤ) (order : List ℕ) → order_for job t left y ≡ some order → BestFor job t left y order
  best_for y order e =
      record {
        whole = takes_orders (length left) order left f.whole f.takes;
        kept = kept_keeps job y t order (for_keeps f.is_for);
        soonest = λ other o k. omega (
          arith,
          for_best agree f.is_for (order_in o) (keeps_kept job y t other k),
          jobs_end job t order,
          jobs_end job t other,
        );
      }
    where
      f : FoundOrder job y t left order
      f = subst (Found job y t left) e (order_found job t left y)

  pub none_keeps : (y : ℤ) → order_for job t left y ≡ none → (order : List ℕ) → Tried left order → ¬ T (keeps job y t order)
  none_keeps y e order o k = no_keeps agree (subst (Found job y t left) e (order_found job t left y)) (order_in o)
      (keeps_kept job y t order k)

  pub none_for : (y : ℤ) → ((order : List ℕ) → Tried left order → ¬ T (keeps job y t order)) → order_for job t left y ≡ none
  none_for y h = step (order_for job t left y) refl
    where
      step : (o : Option (List ℕ)) → order_for job t left y ≡ o → o ≡ none
      step none e = refl
      step (some order) e = let b = best_for y order e in absurd (h order b.whole b.kept)

  -- The same of pairs.
  order_some : {order : List ℕ} → Tried left order → 0 < length order
  order_some {order} o = omega (arith, orders_length (length left) left order o, a.some_row)

  pub pair_kept : (y : ℤ) (order : List ℕ) → Tried left order → T (keeps job y t order) → (pair_of job t order).late ≼ y
  pair_kept y order o k = keeps_late job y t order (order_some o) k

  pub kept_pair : (y : ℤ) (order : List ℕ) → Tried left order → (pair_of job t order).late ≼ y → T (keeps job y t order)
  kept_pair y order o k = late_keeps job y t order (order_some o) k

  -- A bound that is kept: the pair of its order is attained, keeps it, and ends no later than any that does.
  pub soonest_pair : (y : ℤ) (order : List ℕ) → order_for job t left y ≡ some order → (q : Pair) → Memᴰ q (attained job t left) →
      q.late ≼ y → (pair_of job t order).end ≤ q.end
  soonest_pair y order e q m k =
      let u = pair_order job t left q m in
      subst (λ (z : Pair). (pair_of job t order).end ≤ z.end) u.2
      ((best_for y order e).soonest u.0 u.1 (kept_pair y u.0 u.1 (subst (λ (z : Pair). z.late ≼ y) (sym u.2) k)))

  pub no_pair_lem : (y : ℤ) → order_for job t left y ≡ none → (q : Pair) → Memᴰ q (attained job t left) → ¬ (q.late ≼ y)
  no_pair_lem y e q m k =
      let u = pair_order job t left q m in
      none_keeps y e u.0 u.1 (kept_pair y u.0 u.1 (subst (λ (z : Pair). z.late ≼ y) (sym u.2) k))

  -- The end of an order for a bound is that of the theory for one of the rows.
  pub end_at_lem : (y : ℤ) (order : List ℕ) → order_for job t left y ≡ some order → EndsAt (jobs job left) t (end_of job t order)
  end_at_lem y order e =
      subst (EndsAt (jobs job left) t) (jobs_end job t order)
      (for_end agree (omega (arith, length_jobs, a.some_row)) f.is_for)
    where
      f : FoundOrder job y t left order
      f = subst (Found job y t left) e (order_found job t left y)

      length_jobs : length (jobs job left) ≡ length left
      length_jobs = length-map left job
