-- First come, first due: the order by arrival of rows that do not cross, and what a table of the rows by arrival holds.
-- Assumes nothing.
use Prim.Native.Nat.{ℕ, ◌≤◌, ◌<◌}
use native.Mathlib.Omega.{arith}
use mathlib.Core.Bool.{Bool, true, false, cond}
use mathlib.Core.Path.{◌≡◌, refl, sym, ap, ◌∙◌, subst}
use mathlib.Core.List.Permᴰ
use mathlib.Core.List.{List, [], ◌∷◌, Permᴰ}
use mathlib.Core.List.{Memᴰ}
use mathlib.Core.Logic.{◌⊎◌, inl, inr}
use mathlib.Core.Option.{none, some, none-ne-some, some-injective}
use lib.Dec.{T, not_T}
use lib.ListN.{length, take}
use lib.IntN.{ℤ}
use lib.Signed.{le_z, ◌≤ℤ◌}
use Rattle.theory.specs.Jobs.{Job, In, Order}
use Rattle.theory.specs.First.{Better}
use Rattle.theory.specs.Arrival.{arrival_best}
use Rattle.theory.specs.Arrival.{Uncrossed as UncrossedJobs}
use Rattle.theory.specs.Arrival.{ByArrival as JobsByArrival}
use Rattle.schedule.specs.Rows.{count_from}
use Rattle.schedule.specs.Desk.{Pair, OrderOf, end_of, pair_of}
use Rattle.schedule.specs.Plans.{beats, attained, plans}
use Rattle.schedule.specs.Cover.{PlansPromise}
use Rattle.schedule.specs.Arrival.{Uncrossed, comes_before, placed_by_arrival, by_arrival, InArrival, arrival_for, ArrivalPromised}
use Rattle.schedule.specs.Columns.{at}
use Rattle.schedule.specs.Ranks.{ByArrival}
use Rattle.schedule.proofs.Tests.{is_true}
use Rattle.schedule.proofs.Sorted.{Sorted, sorted_unique, mem_place, place_mem, places_sorted}
use Rattle.schedule.proofs.Signed.{up, down, le_z→}
use Rattle.schedule.proofs.DeskLaws.{keeps_late, late_keeps}
use Rattle.schedule.proofs.Orders.{count, count_mem, mem_count, once_first, perm_count, perm_all}
use Rattle.schedule.proofs.Numbers.{count_range, count_once, from_mem}
use Rattle.schedule.proofs.Comes.{Comes, comes_first, comes_trans, comes_same, before_comes, not_before_comes, comes_before_lem}
use Rattle.schedule.proofs.JobsOf.{jobs, jobs_end, on_jobs, jobs_order, keeps_kept, kept_keeps}
use Rattle.schedule.proofs.Beats.{NoWorse, beats_worse, unbeaten_worse, alike}
use Rattle.schedule.proofs.Front.{plans_sound, plans_complete, plans_rising, rising_unique}
use Rattle.schedule.proofs.Best.{order_pair, pair_order}
use Rattle.schedule.proofs.Listing.{some_plan}
use Rattle.schedule.proofs.Cover.{tried, whole, signed, rises, listed, covers}

-- Rows by arrival are the same rows, and each comes before all after it or is one of them.
module _ (job : ℕ → Job) where
  placed_perm : (i : ℕ) (js : List ℕ) → Permᴰ (placed_by_arrival job i js) (i ∷ js)
  unfolding placed_by_arrival
  placed_perm i [] = Permᴰ.refl (i ∷ [])
  placed_perm i (j ∷ js) = step (comes_before job i j) (placed_perm i js)
    where
      step : (b : Bool) → Permᴰ (placed_by_arrival job i js) (i ∷ js) → Permᴰ (cond b (i ∷ j ∷ js) (j ∷ placed_by_arrival job i js))
          (i ∷ j ∷ js)
      step true p = Permᴰ.refl (i ∷ j ∷ js)
      step false p = Permᴰ.trans (Permᴰ.cons refl p) (Permᴰ.swap refl refl)

  pub arrival_perm : (left : List ℕ) → OrderOf left (by_arrival job left)
  unfolding by_arrival
  arrival_perm [] = Permᴰ.nil
  arrival_perm (i ∷ is) = Permᴰ.trans (placed_perm i (by_arrival job is)) (Permᴰ.cons refl (arrival_perm is))

  all_come : (j i : ℕ) (js : List ℕ) → Comes job j i → ((k : ℕ) → Memᴰ k js → Comes job j k) → (k : ℕ) → Memᴰ k (i ∷ js) →
      Comes job j k
  all_come j i js c f k m = step (mathlib.Core.List.Memᴰ.cases_cons m)
    where
      step : (k ≡ i) ⊎ Memᴰ k js → Comes job j k
      step (inl e) = subst (Comes job j) (sym e) c
      step (inr n) = f k n

  placed_sorted : (i : ℕ) (js : List ℕ) → Sorted (Comes job) js → Sorted (Comes job) (placed_by_arrival job i js)
  unfolding placed_by_arrival
  placed_sorted i [] s = (λ k m. absurd (mathlib.Core.List.Memᴰ.not-nil m), tt)
  placed_sorted i (j ∷ js) s = step (comes_before job i j) refl (placed_sorted i js s.1)
    where
      step : (b : Bool) → comes_before job i j ≡ b → Sorted (Comes job) (placed_by_arrival job i js) → Sorted (Comes job)
          (cond b (i ∷ j ∷ js) (j ∷ placed_by_arrival job i js))
      step true e f = let c = (before_comes job i j e).0 in (all_come i j js c (λ k m. comes_trans job c (s.0 k m)), s)
      step false e f = (perm_all (Comes job j) (placed_perm i js) (all_come j i js (not_before_comes job i j e) s.0), f)

  arrival_sorted : (left : List ℕ) → Sorted (Comes job) (by_arrival job left)
  unfolding by_arrival
  arrival_sorted [] = tt
  arrival_sorted (i ∷ is) = placed_sorted i (by_arrival job is) (arrival_sorted is)

  in_arrival : (order : List ℕ) → Sorted (Comes job) order → InArrival job order
  in_arrival [] s = tt
  in_arrival (i ∷ is) s = (λ j m. comes_first job (s.0 j m), in_arrival is s.1)

  -- As the theory says it.
  jobs_arrive : (order : List ℕ) → Sorted (Comes job) order → JobsByArrival (jobs job order)
  jobs_arrive [] s = tt
  jobs_arrive (i ∷ is) s = (
    on_jobs job (λ j. ((job i).release ≤ j.release) × (j.release ≤ (job i).release → (job i).due ≤ j.due)) is
        (λ k m. ((s.0 k m).by_release, (s.0 k m).by_due)),
    jobs_arrive is s.1,
  )

-- The order for a bound, by whether the order by arrival keeps it.
module _ (job : ℕ → Job) (t : ℕ) (left : List ℕ) (y : ℤ) where
  pub arrival_kept : le_z (pair_of job t (by_arrival job left)).late y ≡ true → arrival_for job t left y ≡ some (by_arrival job left)
  unfolding arrival_for
  arrival_kept e = rw e

  pub arrival_within : (pair_of job t (by_arrival job left)).late ≤ℤ y → arrival_for job t left y ≡ some (by_arrival job left)
  arrival_within k = step (le_z (pair_of job t (by_arrival job left)).late y) refl k.le
    where
      step : (b : Bool) → le_z (pair_of job t (by_arrival job left)).late y ≡ b → T b → arrival_for job t left y ≡ some (by_arrival job left)
      step true h l = arrival_kept h
      step false h l = absurd l

  pub arrival_over : le_z (pair_of job t (by_arrival job left)).late y ≡ false → arrival_for job t left y ≡ none
  unfolding arrival_for
  arrival_over e = rw e

module _ (job : ℕ → Job) (t : ℕ) (left : List ℕ) (uncrossed : Uncrossed job left) (some_row : 0 < length left) where
  abbrev order₁ : List ℕ
  order₁ = by_arrival job left

  abbrev pair₁ : Pair
  pair₁ = pair_of job t order₁

  whole₁ : OrderOf left order₁
  whole₁ = arrival_perm job left

  jobs_uncrossed : UncrossedJobs (jobs job left)
  jobs_uncrossed i j m n =
      on_jobs job (λ i. (j : Job) → In j (jobs job left) → i.release < j.release → i.due ≤ j.due) left
      (λ i m. on_jobs job (λ j. (job i).release < j.release → (job i).due ≤ j.due) left
      (λ j n. uncrossed i j m n)) i m j n

  in_order : (order : List ℕ) → OrderOf left order → Order (jobs job order) (jobs job left)
  in_order order o = jobs_order job (length left) left order refl (tried left o)

  better : (bias : ℕ) (order : List ℕ) → OrderOf left order → Better bias t (jobs job order) (jobs job order₁)
  better bias order o = arrival_best jobs_uncrossed (jobs_arrive job order₁ (arrival_sorted job left)) (in_order order₁ whole₁)
      (in_order order o)

  some_rows : (order : List ℕ) → OrderOf left order → 0 < length order
  some_rows order o = omega (arith, (perm_count o).0, some_row)

  -- No order is better: each bound that it keeps, its own lateness too, the order by arrival keeps.
  no_worse : (order : List ℕ) → OrderOf left order → NoWorse pair₁ (pair_of job t order)
  no_worse order o =
      let y : ℤ = (pair_of job t order).late in
      let kept = keeps_kept job y t order (late_keeps job y t order (some_rows order o) (omega arith)) in (
        omega (arith, (better 0 order o).ends, jobs_end job t order₁, jobs_end job t order),
        keeps_late job y t order₁ (some_rows order₁ whole₁) (kept_keeps job y t order₁ ((better (down y) order o).keeps (up y) kept)),
      )

  no_worse_pair : (p : Pair) → Memᴰ p (attained job t left) → NoWorse pair₁ p
  no_worse_pair p m = let u = pair_order job t left p m in subst (NoWorse pair₁) u.2 (no_worse u.0 (whole left u.1))

  attained₁ : Memᴰ pair₁ (attained job t left)
  attained₁ = order_pair job t left order₁ (tried left whole₁)

  -- Its pair is listed since none beats it, and another that is listed it would beat.
  one_plan : plans job t left ≡ pair₁ ∷ []
  one_plan = rising_unique (plans job t left) (pair₁ ∷ []) (plans_rising job t left) (tt, tt)
      (λ p m. let s = plans_sound job t left p m in
      let n = no_worse_pair p s.found in
      mathlib.Core.List.Memᴰ.head (sym (alike pair₁ p n (unbeaten_worse pair₁ p (s.none_beats pair₁ attained₁) n))))
      (λ p m. subst (λ (q : Pair). Memᴰ q (plans job t left)) (sym (mathlib.Core.List.Memᴰ.eq_of_singleton m))
      (plans_complete job t left pair₁ (record {
        found = attained₁;
        none_beats = λ q n. not_T (beats q pair₁) (λ b. (beats_worse q pair₁ b).1 (no_worse_pair q n));
      })))

  for_kept : (y : ℤ) (order : List ℕ) → arrival_for job t left y ≡ some order → (pair₁.late ≤ℤ y) × (order₁ ≡ order)
  for_kept y order e = step (le_z pair₁.late y) refl
    where
      step : (b : Bool) → le_z pair₁.late y ≡ b → (pair₁.late ≤ℤ y) × (order₁ ≡ order)
      step true h = (record { le = is_true _ h }, some-injective order₁ order (sym (arrival_kept job t left y h) ∙ e))
      step false h = absurd (none-ne-some order (sym (arrival_over job t left y h) ∙ e))

  none_for : (y : ℤ) → ¬ (pair₁.late ≤ℤ y) → arrival_for job t left y ≡ none
  none_for y n = step (le_z pair₁.late y) refl
    where
      step : (b : Bool) → le_z pair₁.late y ≡ b → arrival_for job t left y ≡ none
      step true h = absurd (n (record { le = is_true _ h }))
      step false h = arrival_over job t left y h

  through : {y : ℤ} (order : List ℕ) → OrderOf left order → (pair_of job t order).late ≤ℤ y → pair₁.late ≤ℤ y
  through {y} order o k = signed (omega (arith, (no_worse order o).1, le_z→ (pair_of job t order).late y k.le))

  holds : PlansPromise job t left (arrival_for job t left)
  holds = record {
    best = λ y order e. let k = for_kept y order e in
        subst (λ (o : List ℕ). OrderOf left o × ((pair_of job t o).late ≤ℤ y) ×
        ((other : List ℕ) → OrderOf left other → (pair_of job t other).late ≤ℤ y → end_of job t o ≤ end_of job t other))
        k.1 (whole₁, k.0, λ other o g. (no_worse other o).0);
    unkept = λ y. (
      λ e order o k. none-ne-some order₁ (sym e ∙ arrival_within job t left y (through order o k)),
      λ h. none_for y (h order₁ whole₁),
    );
    belongs = listed job t left;
    cover = covers job t left;
    rising = rises job t left;
    few = (some_plan job t left, omega (arith, ap {B = ℕ} length one_plan, some_row));
    attains = λ p m.
        let e : p ≡ pair₁ = mathlib.Core.List.Memᴰ.eq_of_singleton (subst (Memᴰ p) one_plan m) in (
          order₁,
          arrival_within job t left p.late (subst (λ (q : Pair). pair₁.late ≤ℤ q.late) (sym e) (signed (omega arith))),
          (whole₁, sym e),
        );
  }

pub arrival_promised : ArrivalPromised
arrival_promised job t left uncrossed some_row = record {
  whole = arrival_perm job left;
  sorted = in_arrival job (by_arrival job left) (arrival_sorted job left);
  least = λ order o. let n = no_worse job t left uncrossed some_row order o in (n.0, signed n.1);
  one_plan = one_plan job t left uncrossed some_row;
  promise = holds job t left uncrossed some_row;
}

-- A table of the rows by arrival holds the order by arrival: both are sorted, one row strictly before another, and have the same rows.
module _ (job : ℕ → Job) where
  abbrev Before : ℕ → ℕ → Type 0
  Before i j = comes_before job i j ≡ true

  one_way : (i j : ℕ) → Before i j → Before j i → ⊥
  one_way i j e f = let c = before_comes job i j e in c.1 (comes_same job c.0 (before_comes job j i f).0)

  strict : (l : List ℕ) → ((k : ℕ) → count k l ≤ 1) → Sorted (Comes job) l → Sorted Before l
  unfolding count
  strict [] c s = tt
  strict (i ∷ is) c s = (
    λ j m. comes_before_lem job i j (s.0 j m) (λ e. once_first i is (c i) (subst (λ (k : ℕ). Memᴰ k is) (sym e) m)),
    strict is (λ k. omega (arith, c k)) s.1,
  )

pub arrival_list : (n : ℕ) (job : ℕ → Job) (by : List ℕ) → ByArrival n job (at by) → n ≤ length by → take n by ≡ by_arrival job
    (count_from 1 n)
arrival_list n job by a long =
    sorted_unique (Before job) (one_way job) (take n by) (by_arrival job rows) (places_sorted (Before job) n by a.sorted)
    (strict job (by_arrival job rows) (λ k. omega (arith, p.1 k, count_once k 1 n)) (arrival_sorted job rows)) down up
  where
    rows : List ℕ
    rows = count_from 1 n

    p : (length (by_arrival job rows) ≡ length rows) × ((k : ℕ) → count k (by_arrival job rows) ≡ count k rows)
    p = perm_count (arrival_perm job rows)

    down : (i : ℕ) → Memᴰ i (take n by) → Memᴰ i (by_arrival job rows)
    down i m =
        let k = mem_place n by i m in
        let r = a.rows k.0 k.1 in
        let h : Memᴰ i rows = from_mem i 1 n (omega (arith, k.2, r.0)) (omega (arith, k.2, r.1)) in
        count_mem i (by_arrival job rows) (omega (arith, p.1 i, mem_count i rows h))

    up : (i : ℕ) → Memᴰ i (by_arrival job rows) → Memᴰ i (take n by)
    up i m =
        let h = count_range 1 n (perm_all (λ (k : ℕ). Memᴰ k rows) (arrival_perm job rows) (λ k g. g) i m) in
        let k = a.place i h.0 (omega (arith, h.1)) in
        subst (λ (x : ℕ). Memᴰ x (take n by)) k.2 (place_mem n by k.0 k.1 long)
