-- Jobs that are the same on the rows 1 to n: the same orders, pairs and list of plans of these rows, by either profile.
-- Assumes nothing.
use Prim.Native.Nat.{ℕ}
use native.Mathlib.Omega.{arith}
use mathlib.Core.Bool.{cond}
use mathlib.Core.Path.{◌≡◌, refl, sym, ap, ◌∙◌}
use mathlib.Core.List.{List, [], ◌∷◌, map, Memᴰ}
use mathlib.Core.Option
use mathlib.Core.Option.{Option, none, some}
use lib.ListN.{length}
use lib.IntN.{ℤ}
use lib.Signed.{le_z}
use Rattle.theory.specs.Jobs.{Job, finish}
use Rattle.schedule.specs.declared.Profile.{Profile}
use Rattle.schedule.specs.declared.Profile.TheVariants.{Ordering, FirstCome}
use Rattle.schedule.specs.Rows.{count_from}
use Rattle.schedule.specs.Desk.{Pair, pair_of, end_of, latenesses, worst_of}
use Rattle.schedule.specs.Picks.{order_for}
use Rattle.schedule.specs.Plans.{orders_of, unbeaten, by_end, attained, plans}
use Rattle.schedule.specs.Arrival.{comes_before, placed_by_arrival, by_arrival, arrival_for}
use Rattle.schedule.specs.Profiles.{Obeys, plans_by, order_by}
use Rattle.schedule.proofs.Orders.{count, perm_all, orders_perm}
use Rattle.schedule.proofs.Numbers.{count_range, from_mem}
use Rattle.schedule.proofs.Arrival.{arrival_perm}
use Rattle.schedule.proofs.Matches.{Matches}
use Rattle.schedule.proofs.RankPicks.{Renumbers}
use Rattle.schedule.proofs.Renumbered.{renumbered}

map_id : (xs : List ℕ) → map (λ k. k) xs ≡ xs
map_id [] = refl
map_id (x ∷ xs) = ap {B = List ℕ} (λ ys. x ∷ ys) (map_id xs)

option_id : (o : Option (List ℕ)) → Option.map (map (λ k. k)) o ≡ o
option_id none = refl
option_id (some xs) = ap {B = Option (List ℕ)} some (map_id xs)

pub map_same : {A B : Type 0} (f g : A → B) (xs : List A) → ((x : A) → Memᴰ x xs → f x ≡ g x) → map f xs ≡ map g xs
map_same f g [] h = refl
map_same f g (x ∷ xs) h = λ i. h x (Memᴰ.head refl) i ∷ map_same f g xs (λ y m. h y (Memᴰ.tail m)) i

module _ (job job' : ℕ → Job) where
  abbrev Same : List ℕ → Type 0
  Same left = (i : ℕ) → Memᴰ i left → job i ≡ job' i

  same_end : (t : ℕ) (order : List ℕ) → Same order → end_of job t order ≡ end_of job' t order
  unfolding end_of
  same_end t [] h = refl
  same_end t (i ∷ is) h =
      ap (λ (j : Job). end_of job (finish j t) is) (h i (Memᴰ.head refl)) ∙ same_end (finish (job' i) t) is
      (λ k m. h k (Memᴰ.tail m))

  same_lates : (t : ℕ) (order : List ℕ) → Same order → latenesses job t order ≡ latenesses job' t order
  unfolding latenesses
  same_lates t [] h = refl
  same_lates t (i ∷ is) h =
      let e = h i (Memᴰ.head refl) in
      rw (e, same_lates (finish (job' i) t) is (λ k m. h k (Memᴰ.tail m)))

  -- An order of these rows has the same pair.
  pub same_pair : (t : ℕ) (order : List ℕ) → Same order → pair_of job t order ≡ pair_of job' t order
  same_pair t order h = λ x. record { end = same_end t order h x; late = worst_of (same_lates t order h x) }

  same_attained : (t : ℕ) (left : List ℕ) → Same left → attained job t left ≡ attained job' t left
  unfolding attained
  same_attained t left h =
      map_same (pair_of job t) (pair_of job' t) (orders_of (length left) left) (λ order m.
      same_pair t order (perm_all (λ i. job i ≡ job' i) (orders_perm (length left) left order refl m) h))

  same_plans : (t : ℕ) (left : List ℕ) → Same left → plans job t left ≡ plans job' t left
  unfolding plans
  same_plans t left h = ap (λ (ps : List Pair). by_end (unbeaten ps ps)) (same_attained t left h)

  same_placed : (i : ℕ) (js : List ℕ) → job i ≡ job' i → Same js → placed_by_arrival job i js ≡ placed_by_arrival job' i js
  unfolding placed_by_arrival comes_before
  same_placed i [] e h = refl
  same_placed i (j ∷ js) e h =
      rw (e, h j (Memᴰ.head refl), same_placed i js e (λ k m. h k (Memᴰ.tail m)))

  same_arrival : (left : List ℕ) → Same left → by_arrival job left ≡ by_arrival job' left
  unfolding by_arrival
  same_arrival [] h = refl
  same_arrival (i ∷ is) h =
      let later : Same is = λ k m. h k (Memᴰ.tail m) in
      same_placed i (by_arrival job is) (h i (Memᴰ.head refl)) (perm_all (λ k. job k ≡ job' k) (arrival_perm job is) later) ∙
      ap (placed_by_arrival job' i) (same_arrival is later)

  same_arrival_pair : (t : ℕ) (left : List ℕ) → Same left → pair_of job t (by_arrival job left) ≡ pair_of job' t (by_arrival job' left)
  same_arrival_pair t left h =
      same_pair t (by_arrival job left) (perm_all (λ k. job k ≡ job' k) (arrival_perm job left) h) ∙ ap (pair_of job' t) (same_arrival left h)

  module _ (n : ℕ) (h : Same (count_from 1 n)) where
    same_orders : (t : ℕ) (y : ℤ) → order_for job t (count_from 1 n) y ≡ order_for job' t (count_from 1 n) y
    same_orders t y =
        let new : Renumbers n job job' (λ k. k) =
        record { ties = λ k l h g f a b. omega arith; same = λ k a b. sym (h k (from_mem k 1 n a (omega arith))) } in
        let all : Matches n (λ k. k) (count_from 1 n) (count_from 1 n) = record {
          among = λ k m. omega (arith, count_range 1 n m);
          counts = λ i. ap (count i) (sym (map_id (count_from 1 n)));
          lengths = refl;
        } in
        renumbered new all t y ∙ option_id (order_for job' t (count_from 1 n) y)

    pub same_rule : (profile : Profile) → Obeys profile job (count_from 1 n) → Obeys profile job' (count_from 1 n)
    same_rule Ordering a = λ i j m k. rw (← h i m, ← h j k) (a i j m k)
    same_rule FirstCome a = λ i j m k. rw (← h i m, ← h j k) (a i j m k)

    pub same_list : (profile : Profile) (t : ℕ) → plans_by profile job t (count_from 1 n) ≡ plans_by profile job' t (count_from 1 n)
    unfolding plans_by
    same_list Ordering t = same_plans t (count_from 1 n) h
    same_list FirstCome t = ap (λ (p : Pair). p ∷ []) (same_arrival_pair t (count_from 1 n) h)

    pub same_order : (profile : Profile) (t : ℕ) (y : ℤ) → order_by profile job t (count_from 1 n) y ≡ order_by profile job' t
        (count_from 1 n) y
    unfolding order_by arrival_for
    same_order Ordering t y = same_orders t y
    same_order FirstCome t y = λ x.
        cond (le_z (same_arrival_pair t (count_from 1 n) h x).late y) (some (same_arrival (count_from 1 n) h x)) none
