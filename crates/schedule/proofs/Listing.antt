-- The list of plans: what it covers, how many plans it has, and that asking for ever smaller bounds gives it.
-- Assumes nothing.
use Prim.Native.Nat.{ℕ, zero, suc, ◌+◌, ◌≤◌, ◌<◌}
use native.Mathlib.Omega.{arith}
use native.Mathlib.Decide.{dec_le}
use mathlib.Core.Path.{◌≡◌, refl, sym, ap, ◌∙◌, subst}
use mathlib.Core.List.Memᴰ
use mathlib.Core.List.Permᴰ
use mathlib.Core.List.{List, [], ◌∷◌, Memᴰ}
use mathlib.Core.Option.{Option, none, some}
use lib.Dec.{T}
use lib.ListN.{length, length-map}
use lib.IntN.{ℤ, pos, negsuc, pred_ℤ}
use Rattle.theory.specs.Jobs.{Job, In}
use Rattle.theory.specs.Order.{in_ins, ins_on}
use Rattle.theory.specs.Runs.{ins_length}
use Rattle.theory.specs.Ends.{end_at}
use Rattle.schedule.specs.Desk.{Pair, pair_of, keeps}
use Rattle.schedule.specs.Picks.{order_for}
use Rattle.schedule.specs.Plans.{attained, plans, ahead_of, list_from, list_by_bounds}
use Rattle.schedule.specs.Cover.{Fits32}
use Rattle.schedule.proofs.Signed.{up, down, ◌≼◌, ◌≺◌, le_z→, pred_level}
use Rattle.schedule.proofs.Orders.{perm_orders, orders_perm}
use Rattle.schedule.proofs.Beats.{NoWorse, unbeaten_worse, alike}
use Rattle.schedule.proofs.Front.{Listed, Rising, above_mem, plans_sound, plans_complete, plans_rising, rising_unique}
use Rattle.schedule.proofs.Pareto.{listed_below, Lists, lists_none, lists_more}
use Rattle.schedule.proofs.JobsOf.{jobs}
use Rattle.schedule.proofs.Best.{Plannable, Tried, best_for, order_pair, pair_order, pair_kept, kept_pair, soonest_pair, no_pair_lem}
use Rattle.schedule.proofs.Best.{end_at_lem}

-- Rising ends, each one that a function takes at a job: no more than there are jobs.
pigeon : (F : Job → ℕ) (ps : List Pair) (N : List Job) → Rising ps → ((p : Pair) → Memᴰ p ps → (j : Job) × In j N × (p.end ≡ F j)) →
    length ps ≤ length N
pigeon F [] N r h = omega arith
pigeon F (p ∷ ps) N r h =
    let u = h p (Memᴰ.head refl) in
    let i = in_ins u.1 in
    omega (
      arith,
      ins_length i.1,
      pigeon F ps i.0 r.1 (λ q m. let v = h q (Memᴰ.tail m) in
          ins_on (λ j. q.end ≡ F j → (k : Job) × In k i.0 × (q.end ≡ F k)) i.1
          (λ e. absurd (omega (arith, u.2, above_mem ps r.0 m))) (λ j n e. (j, n, e)) v.0 v.1 v.2),
    )

mem_length : {p : Pair} (ps : List Pair) → Memᴰ p ps → 0 < length ps
mem_length [] m = absurd (Memᴰ.not-nil m)
mem_length (q ∷ qs) m = omega arith

-- Of any rows: every order is covered, there is a plan, and later plans are less late.
module _ (job : ℕ → Job) (t : ℕ) (left : List ℕ) where
  pub covered : (order : List ℕ) → Tried left order → (p : Pair) × Memᴰ p (plans job t left) × NoWorse p (pair_of job t order)
  covered order o =
      let u = listed_below (attained job t left) (pair_of job t order) (order_pair job t left order o) in
      (u.0, plans_complete job t left u.0 u.1, u.2)

  pub some_plan : 0 < length (plans job t left)
  some_plan = let u = covered left (perm_orders (length left) left left refl (Permᴰ.refl left)) in mem_length (plans job t left) u.1

  pub later_less : (p q : Pair) → Memᴰ p (plans job t left) → Memᴰ q (plans job t left) → p.end < q.end → q.late ≺ p.late
  later_less p q m n h = step (dec_le (up p.late + down q.late) (up q.late + down p.late))
    where
      step : Dec (p.late ≼ q.late) → q.late ≺ p.late
      step (yes l) =
          let w = unbeaten_worse p q ((plans_sound job t left q n).none_beats p (plans_sound job t left p m).found) (omega arith, l) in
          absurd (omega (arith, w.0))
      step (no l) = omega arith

module _ {job : ℕ → Job} {t : ℕ} {left : List ℕ} (a : Plannable job t left) where
  -- The order for the lateness of a listed pair has that pair.
  pub attained_for : (p : Pair) → Memᴰ p (plans job t left) → (order : List ℕ) × (order_for job t left p.late ≡ some order) ×
      (pair_of job t order ≡ p)
  attained_for p m = step (order_for job t left p.late) refl
    where
      l : Listed (attained job t left) p
      l = plans_sound job t left p m

      step : (o : Option (List ℕ)) → order_for job t left p.late ≡ o → (order : List ℕ) × (o ≡ some order) × (pair_of job t order ≡ p)
      step none e = absurd (no_pair_lem a p.late e p l.found (omega arith))
      step (some order) e =
          let b = best_for a p.late order e in
          let q : Pair = pair_of job t order in
          let n : NoWorse q p = (
            soonest_pair a p.late order e p l.found (omega arith),
            pair_kept a p.late order b.whole
                b.kept,
          ) in
          (order, refl, alike q p n (unbeaten_worse q p (l.none_beats q (order_pair job t left order b.whole)) n))

  pub few_plans : length (plans job t left) ≤ length left
  few_plans =
      let N : List Job = jobs job left in
      omega (
        arith,
        pigeon (end_at N t) (plans job t left) N (plans_rising job t left) (λ p m. let u = attained_for p m in
            let e = end_at_lem a p.late u.0 u.1 in
            (e.0, e.1, ap (λ (q : Pair). q.end) (sym u.2) ∙ e.2)),
        length-map left job,
      )

  -- No lateness is below the least signed 32-bit number.
  pub late_least : Fits32 job t left → (q : Pair) → Memᴰ q (attained job t left) → down q.late ≤ up q.late + 2147483648
  late_least fits q m =
      let u = pair_order job t left q m in
      let w = (fits u.0 (orders_perm (length left) left u.0 refl u.1)).0 in
      subst (λ (z : Pair). down z.late ≤ up z.late + 2147483648) u.2
      (omega (arith, le_z→ (negsuc 2147483647) (pair_of job t u.0).late w.le))

module _ {job : ℕ → Job} {t : ℕ} {left : List ℕ} (a : Plannable job t left) (fits : Fits32 job t left) where
  -- With questions enough, asking from y down gives the plans that are late by at most y.
  pub list_from_lem : (n : ℕ) (y : ℤ) → up y + 2147483648 < n + down y → Lists (attained job t left) y (list_from job t left n y)
  unfolding list_from
  list_from_lem zero y h = lists_none (attained job t left) y (λ q m k. omega (arith, late_least a fits q m))
  list_from_lem (suc n) y h = step (order_for job t left y) refl (λ z g. list_from_lem n z g)
    where
      step : (o : Option (List ℕ)) → order_for job t left y ≡ o →
          ((z : ℤ) → up z + 2147483648 < n + down z → Lists (attained job t left) z (list_from job t left n z)) →
          Lists (attained job t left) y
          (elim o [ none ↦ [] | some order ↦ ahead_of (pair_of job t order) (list_from job t left n (pred_ℤ (pair_of job t order).late)) ])
      step none e below = lists_none (attained job t left) y (no_pair_lem a y e)
      step (some order) e below =
          let b = best_for a y order e in
          let p : Pair = pair_of job t order in
          let k = pair_kept a y order b.whole b.kept in
          lists_more (attained job t left) y p (list_from job t left n (pred_ℤ p.late)) (order_pair job t left order b.whole) k
          (soonest_pair a y order e)
          (below (pred_ℤ p.late) (omega (arith, k, pred_level p.late)))

  pub same_from : (n : ℕ) (y : ℤ) → up y + 2147483648 < n + down y → ((order : List ℕ) → Tried left order → T (keeps job y t order)) →
      list_from job t left n y ≡ plans job t left
  same_from n y h top =
      let l = list_from_lem n y h in
      rising_unique (list_from job t left n y) (plans job t left) l.rise (plans_rising job t left)
      (λ p m. plans_complete job t left p (l.sound p m).0)
      (λ p m. let s = plans_sound job t left p m in
      let u = pair_order job t left p s.found in
      l.complete p s (subst (λ (z : Pair). z.late ≼ y) u.2 (pair_kept a y u.0 u.1 (top u.0 u.1))))

  pub top : (order : List ℕ) → Tried left order → T (keeps job (pos 2147483647) t order)
  top order o =
      kept_pair a (pos 2147483647) order o
      (le_z→ (pair_of job t order).late (pos 2147483647) (fits order (orders_perm (length left) left order refl o)).1.le)

  pub same_bounds : list_by_bounds job t left ≡ plans job t left
  unfolding list_by_bounds
  same_bounds = same_from 4294967296 (pos 2147483647) (omega arith) top
