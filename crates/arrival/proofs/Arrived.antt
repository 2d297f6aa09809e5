-- The one plan by arrival as the code holds it: its rows, its pair on the list, and its order for a bound.
-- Assumes nothing.
use Prim.Native.Nat.{ℕ, ◌≤◌, ◌<◌}
use native.Mathlib.Omega.{arith}
use native.Mathlib.Decide.{dec_le}
use mathlib.Core.Path.{◌≡◌, refl, sym, ap, ◌∙◌, subst}
use mathlib.Core.List.{List, [], ◌∷◌, ◌++◌}
use mathlib.Core.Option.{Option, none, some}
use lib.Dec.{leb}
use lib.ListN.{length, take, drop, get_or, set, get_or-eq_default, length-set}
use lib.Seq.{length-take-le, get_or-take}
use lib.Signed.{le_z}
use borrow.Author.Tests.{le-leb, lt-leb}
use Rattle.std.specs.Prelude.{Some, None}
use Rattle.theory.specs.Jobs.{Job}
use Rattle.schedule.specs.Limits.{most_rows, row_places}
use Rattle.schedule.specs.declared.Desk.{Desk}
use Rattle.schedule.specs.declared.Profile.TheVariants.{FirstCome}
use Rattle.schedule.specs.Rows.{count_from}
use Rattle.schedule.specs.Desk.{pair_of}
use Rattle.schedule.specs.Arrival.{by_arrival, arrival_for}
use Rattle.schedule.specs.Profiles.{plans_by}
use Rattle.schedule.specs.Offset.{raised, lowered}
use Rattle.schedule.specs.Columns.{at, Limits}
use Rattle.schedule.specs.Ranks.{ByArrival}
use Rattle.schedule.proofs.Orders.{perm_count}
use Rattle.schedule.proofs.Numbers.{length_count}
use Rattle.schedule.proofs.Arrival.{arrival_list, arrival_perm, arrival_kept, arrival_over}
use Rattle.listing.specs.PlanFor.{planned_of}
use Rattle.schedule.proofs.Raised.{lowered_le}
use Rattle.search.proofs.Signs.{late_lowers}
use Rattle.listing.specs.Fronts.{HoldsPlans}
use Rattle.arrival.specs.declared.Plan.{Plan}
use Rattle.arrival.specs.Given.{written_of, OrderGiven, Followed, Arrived}

module _ (job : ℕ → Job) (n : ℕ) where
  -- The rows 1 to n by arrival, and how many they are.
  abbrev arrived : List ℕ
  arrived = by_arrival job (count_from 1 n)

  arrived_length : length arrived ≡ n
  arrived_length = (perm_count (arrival_perm job (count_from 1 n))).0 ∙ length_count 1 n

  -- What the sort writes: rows of at most `most_rows`, which are those by arrival.
  module _ (order : List ℕ) (few : n ≤ most_rows) (size : length order ≡ row_places) (by : ByArrival n job (at order)) where
    pub arrived_small : (k : ℕ) → get_or (take n order) k 0 ≤ most_rows
    arrived_small k = go (dec_le n k)
      where
        go : Dec (n ≤ k) → get_or (take n order) k 0 ≤ most_rows
        go (yes h) = rw (get_or-eq_default (take n order) 0 {n = k} (omega (arith, length-take-le n order (omega arith)))) (omega arith)
        go (no h) = rw (get_or-take n order k 0 (omega arith)) (omega (arith, (by.rows k (omega arith)).1))

    pub arrived_plan : (free : ℕ) (desk : Desk) → Followed job free (take n order) desk →
        Arrived job free n (record { order = order; desk = desk })
    arrived_plan free desk f =
        let l = arrival_list n job order by (omega arith) in
        record { places = size; rows = l; after = subst (λ (o : List ℕ). Followed job free o desk) l f }

  -- The list is the one plan's pair.
  module _ (free : ℕ) (low : 1 ≤ n) (plan : Plan) (a : Arrived job free n plan) where
    abbrev desk : Desk
    desk = plan.desk

    some_row : 1 ≤ length arrived
    some_row = omega (arith, arrived_length)

    late_is : desk.worst ≡ raised (pair_of job free arrived).late
    late_is = a.after.late some_row

    pub one_plan : (ends lates : List ℕ) → length ends ≡ most_rows → length lates ≡ most_rows →
        HoldsPlans (plans_by FirstCome job free (count_from 1 n)) n
        (record { count = 1; ends = set ends 0 desk.minute; lates = set lates 0 desk.worst })
    unfolding plans_by
    one_plan ends lates e l = record {
      counted = refl;
      few = low;
      ends = first ends desk.minute e ∙ ap (λ (x : ℕ). x ∷ []) a.after.end;
      lates = first lates desk.worst l ∙ ap (λ (x : ℕ). x ∷ []) late_is;
      end_places = length-set ends 0 desk.minute ∙ e;
      late_places = length-set lates 0 desk.worst ∙ l;
    }
      where
        first : (xs : List ℕ) (x : ℕ) → length xs ≡ most_rows → take 1 (set xs 0 x) ≡ x ∷ []
        first [] x h = let z : ⊥ = omega arith in absurd z
        first (y ∷ ys) x h = refl

    -- Its order for a bound.
    module _ (limits : Limits job) (bound : ℕ) (out : List ℕ) where
      against : le_z (pair_of job free arrived).late (lowered bound) ≡ leb desk.worst bound
      against =
          ap (λ (y : lib.IntN.ℤ). le_z y (lowered bound)) (sym (ap lowered late_is ∙ late_lowers job limits free arrived some_row)) ∙
          lowered_le desk.worst bound

      pub arrival_unkept : bound < desk.worst →
          OrderGiven job free (arrival_for job free (count_from 1 n) (lowered bound)) bound out None out
      unfolding planned_of written_of
      arrival_unkept h =
          let e : arrival_for job free (count_from 1 n) (lowered bound) ≡ none =
          arrival_over job free (count_from 1 n) (lowered bound) (against ∙ lt-leb desk.worst bound h) in
          record {
            answered = ap (planned_of job free) (sym e);
            buffer = ap (λ (x : Option (List ℕ)). written_of x out) (sym e);
            bounded = tt;
          }

      pub arrival_given : desk.worst ≤ bound → (after : List ℕ) → after ≡ take n plan.order ++ drop n out →
          OrderGiven job free (arrival_for job free (count_from 1 n) (lowered bound)) bound out (Some desk) after
      unfolding planned_of written_of
      arrival_given h after w =
          let e : arrival_for job free (count_from 1 n) (lowered bound) ≡ some arrived =
          arrival_kept job free (count_from 1 n) (lowered bound) (against ∙ le-leb desk.worst bound h) in
          record {
            answered = (λ x. Some (record { minute = a.after.end x; worst = late_is x })) ∙ ap (planned_of job free) (sym e);
            buffer = w ∙ ((λ x. a.rows x ++ drop (sym arrived_length x) out) ∙ ap (λ (x : Option (List ℕ)). written_of x out) (sym e));
            bounded = (a.after.low some_row, h, a.after.high);
          }
