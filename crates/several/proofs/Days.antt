-- From what is held of the desks of several days to what is chosen of these days. Assumes nothing.
use Prim.Native.Nat.{ℕ, zero, suc, ◌+◌, ◌≤◌, ◌<◌}
use native.Mathlib.Omega.{arith}
use native.Mathlib.Decide.{ℕ_discrete}
use mathlib.Core.Path.{◌≡◌, refl, sym, ap, ap₂, ◌∙◌}
use mathlib.Core.List.{List, [], ◌∷◌, map, map-map, flatten}
use mathlib.Core.Option.{Option, none, some}
use lib.ListN.{length, take, get_or, length-map}
use lib.Seq.{take-suc, take-length}
use lib.IntN.{ℤ}
use Rattle.std.specs.Prelude.{Option as CodeOption, None, Some, Ok, Err}
use Rattle.schedule.specs.Rows.{Day, count_from}
use Rattle.schedule.specs.Desk.{Pair}
use Rattle.schedule.specs.Offset.{raised, lowered}
use Rattle.schedule.specs.Columns.{at}
use Rattle.schedule.proofs.Filling.{mapped_at}
use Rattle.refusals.proofs.Tests.{never}
use Rattle.readers.specs.declared.Terms.{Terms}
use Rattle.readers.specs.Reads.{ordering_rule}
use Rattle.results.specs.Results.{written}
use Rattle.outcomes.specs.Planning.{Planning, gives}
use Rattle.calls.specs.Planned.{planned}
use Rattle.overtime.specs.Choices.{overtimes, first_plans, LeastPlans, best_plans, or_empty, plan_orders, lists_of, chosen_from, best_choice}
use Rattle.choice.specs.declared.Taken.{Taken}
use Rattle.choice.specs.Lists.{list_at, lists_in, Listed, place_at, taken_at, taken_of, taken_by, best_of}
use Rattle.choice.proofs.Taking.{first_at, firsts_to, none_within, inside, firsts_all}
use Rattle.choice.proofs.Choosing.{same_taken, Known, best}
use Rattle.several_books.specs.Held.{AllRead, refusal_of, Slot, slot_at, Holds, ReadAll}
use Rattle.several_lent.specs.Lent.{books_of}
use Rattle.several_books.specs.Days.{rows_of, no_day}
use Rattle.several_books.proofs.Desks.{rows_more, books_length, DaysOf}
use Rattle.several_orders.specs.Orders.{rows_to, order_at, orders_to, CanOrder}
use Rattle.several.specs.Ready.{DaysReady}
use Rattle.several.specs.Calls.{chosen_at, desks_of, days_outcome}
use Rattle.several.proofs.Outcomes.{days_narrow, days_none, days_some}

-- What is made of each place is what is made of each element.
map_counted : {A B : Type 0} (f : ℕ → B) (g : A → B) (past : A) (xs : List A) (i : ℕ) →
    ((e : ℕ) → e < length xs → f (i + e) ≡ g (get_or xs e past)) → map f (count_from i (length xs)) ≡ map g xs
unfolding count_from
map_counted f g past [] i h = refl
map_counted {A} {B} f g past (x ∷ xs) i h =
    let z : i + 0 ≡ i = omega arith in
    ap₂ {C = List B} (λ y ys. y ∷ ys) (ap f (sym z) ∙ h 0 (omega arith)) (map_counted f g past xs (suc i) (λ e l.
    let s : suc i + e ≡ i + suc e = omega arith in
    ap f s ∙ h (suc e) (omega arith)))

-- The orders of plans that are numbered.
orders_counted : (p : ℕ → Pair) (o : ℕ → List ℕ) (past : Planning) (ds : List Planning) (i : ℕ) →
    ((e : ℕ) → e < length ds → o (i + e) ≡ or_empty ((get_or ds e past).orders (p (i + e)).late)) →
    map o (count_from i (length ds)) ≡ plan_orders ds (map p (count_from i (length ds)))
unfolding count_from plan_orders
orders_counted p o past [] i h = refl
orders_counted p o past (d ∷ ds) i h =
    let z : i ≡ i + 0 = omega arith in
    ap₂ {C = List (List ℕ)} (λ y ys. y ∷ ys) (ap o z ∙ h 0 (omega arith) ∙ ap (λ (k : ℕ). or_empty (d.orders (p k).late)) (sym z))
    (orders_counted p o past ds (suc i) (λ e l.
    let s : suc i + e ≡ i + suc e = omega arith in
    ap o s ∙ h (suc e) (omega arith) ∙ ap (λ (k : ℕ). or_empty ((get_or ds e past).orders (p k).late)) (sym s)))

-- The days of books that were all read have their desks.
pub days_ready : (terms : Terms) (books lengths closings : List ℕ) (free rows plans : List ℕ) (columns fronts : List (List ℕ)) (r :
    AllRead)
    (all : ReadAll terms (books_of lengths books) free rows plans columns fronts r) (total : ℕ)
    (d : DaysOf terms (books_of lengths books) free rows plans columns fronts r all total) → length closings ≡ length lengths →
    DaysReady terms.opening d.all_days free rows plans columns fronts (length closings) total
days_ready terms books lengths closings free rows plans columns fronts r all total d e = record {
  many = omega (arith, d.many, books_length lengths books);
  summed = d.summed;
  held = d.held;
}

module _ (opening : ℕ) (ds : List Day) (free rows plans : List ℕ) (columns fronts : List (List ℕ)) (closings : List ℕ) (total : ℕ)
    (r : DaysReady opening ds free rows plans columns fronts (length closings) total) where
  abbrev desks : List Planning
  desks = desks_of opening ds

  abbrev slot : ℕ → Slot
  slot e = slot_at free rows plans columns fronts e

  abbrev day : ℕ → Day
  day e = get_or ds e no_day

  holds : (e : ℕ) → e < length closings → Holds opening (day e) (slot e)
  holds e h = r.held e (omega (arith, r.many))

  pub listed : Listed plans fronts (length closings)
  listed e h = (holds e h).ready.listed

  lists_same : lists_in plans fronts (length closings) ≡ lists_of desks
  lists_same =
      ap (lists_in plans fronts) (sym r.many) ∙
      map_counted (list_at plans fronts) (λ (d : Day). (planned (ordering_rule opening) d).plans) no_day ds 0 (λ e l.
      let z : 0 + e ≡ e = omega arith in
      let h = holds e (omega (arith, r.many)) in
      ap (list_at plans fronts) z ∙ h.ready.list ∙ h.plans) ∙
      sym (map-map (λ (d : Planning). d.plans) (planned (ordering_rule opening)) ds)

  rows_same : (d : ℕ) → d ≤ length ds → rows_to rows d ≡ rows_of (take d ds)
  unfolding rows_to rows_of
  rows_same zero h = refl
  rows_same (suc d) h =
      let k = holds d (omega (arith, r.many)) in
      omega (
        arith,
        rows_same d (omega arith),
        ap {B = ℕ} rows_of (take-suc ds d no_day (omega arith)),
        rows_more (take d ds) (day d),
        k.rows,
      )

  -- The rows of all desks.
  pub all_rows_lem : rows_to rows (length closings) ≡ total
  all_rows_lem =
      ap (rows_to rows) (sym r.many) ∙ rows_same (length ds) (omega arith) ∙ ap rows_of (take-length ds) ∙ sym r.summed

  module _ (some_desk : 1 ≤ length closings) (limit : ℕ) (b : List ℕ) where
    abbrev lists : List (List Pair)
    lists = lists_in plans fronts (length closings)

    pub answer_narrow : length b < total → gives (Err (refusal_of 9 0 0)) b ≡ days_outcome opening closings limit b ds
    answer_narrow h = sym (days_narrow opening closings limit b ds (omega (arith, r.summed)))

    chosen_is : (o : Option LeastPlans) → best_plans limit closings lists ≡ o → best_choice limit closings desks ≡ chosen_from closings desks o
    unfolding best_choice
    chosen_is o e = ap (chosen_from closings desks) (ap (best_plans limit closings) (sym lists_same) ∙ e)

    none_taken : (o : Option LeastPlans) → taken_by closings o ≡ None → o ≡ none
    unfolding taken_by
    none_taken none e = refl
    none_taken (some w) e = never (cc)

    pub answer_none : total ≤ length b → (t : CodeOption Taken) → t ≡ best_of limit closings lists → t ≡ None →
        gives (Err (refusal_of 16 0 0)) b ≡ days_outcome opening closings limit b ds
    answer_none wide t e n =
        let none_is = none_taken (best_plans limit closings lists) (sym e ∙ n) in
        sym (days_none opening closings limit b ds (omega (arith, r.summed)) (chosen_is none none_is))

    -- Plans are chosen.
    pub record PlansTaken (late sum : ℕ) : Type 0 where
      pub within : LeastPlans
      pub is : best_plans limit closings lists ≡ some within
      pub lateness : late ≡ raised within.late
      pub overtime : sum ≡ overtimes closings within.plans

    plans_taken_by : (o : Option LeastPlans) → best_plans limit closings lists ≡ o → (late sum : ℕ) →
        taken_by closings o ≡ Some (taken_at late sum) →
        PlansTaken late sum
    unfolding taken_by
    plans_taken_by none q late sum e = never (cc)
    plans_taken_by (some w) q late sum e =
        let s : taken_at late sum ≡ taken_at (raised w.late) (overtimes closings w.plans) = sym (same_taken e) in
        record { within = w; is = q; lateness = ap (λ (t : Taken). t.late) s; overtime = ap (λ (t : Taken). t.overtime) s }

    pub plans_taken : (t : CodeOption Taken) → t ≡ best_of limit closings lists → (late sum : ℕ) → t ≡ Some (taken_at late sum) →
        PlansTaken late sum
    plans_taken t e late sum p = plans_taken_by (best_plans limit closings lists) refl late sum (sym e ∙ p)

    module _ (late sum : ℕ) (k : PlansTaken late sum) where
      w : Known plans fronts closings limit listed some_desk k.within
      w = best plans fronts closings limit listed some_desk k.within k.is

      pub sum_kept : sum ≤ limit
      sum_kept = omega (arith, k.overtime, w.kept)

      first_plans_lem : first_plans (lowered late) lists ≡ some k.within.plans
      first_plans_lem = ap (λ (n : ℕ). first_plans (lowered n) lists) k.lateness ∙ w.first

      has_plan : (e : ℕ) → e < length closings → place_at plans fronts late e < at plans e
      has_plan e h = step (ℕ_discrete (place_at plans fronts late e) (at plans e))
        where
          step : Dec (place_at plans fronts late e ≡ at plans e) → place_at plans fronts late e < at plans e
          step (yes same) = some_taken (none_within plans fronts closings late listed e h same ∙ ap (taken_of closings) first_plans_lem)
            where
              some_taken : {A : Type 0} → None ≡ taken_of closings (some k.within.plans) → A
              some_taken q = unfold taken_of in never (cc)
          step (no other) = (inside plans fronts closings late listed e h (place_at plans fronts late e) refl other).0

      pub can_order : CanOrder free rows plans columns fronts late (length closings)
      can_order e h = ((holds e h).ready, has_plan e h)

      some_one : {a b : List Pair} → some a ≡ some b → a ≡ b
      some_one e = cc

      orders_same : orders_to free rows plans columns fronts late (length closings) ≡ plan_orders desks k.within.plans
      orders_same =
          let n : length desks ≡ length closings = length-map ds (planned (ordering_rule opening)) ∙ r.many in
          let p : firsts_to plans fronts closings late (length closings) ≡ k.within.plans =
          some_one (sym (firsts_all plans fronts closings late listed has_plan) ∙ first_plans_lem) in
          ap (orders_to free rows plans columns fronts late) (sym n) ∙
          orders_counted (first_at plans fronts closings late) (order_at free rows plans columns fronts late) (planned (ordering_rule
          opening) no_day)
          desks 0 (λ e l.
          let z : 0 + e ≡ e = omega arith in
          ap (order_at free rows plans columns fronts late) z ∙
          ap or_empty ((holds e (omega (arith, n))).orders (first_at plans fronts closings late e).late) ∙
          ap (λ (g : Planning). or_empty (g.orders (first_at plans fronts closings late e).late))
          (sym (mapped_at (planned (ordering_rule opening)) ds e no_day (planned (ordering_rule opening) no_day) (omega (
            arith,
            n,
            r.many,
          )))) ∙
          ap (λ (i : ℕ). or_empty ((get_or desks e (planned (ordering_rule opening) no_day)).orders (first_at plans fronts closings late i
          ).late))
          (sym z)) ∙
          ap (plan_orders desks) (ap (firsts_to plans fronts closings late) n ∙ p)

      pub answer_chosen : total ≤ length b → (y : ℤ) → y ≡ lowered late → (after : List ℕ) →
          after ≡ written (flatten (orders_to free rows plans columns fronts late (length closings))) b →
          gives (Ok (chosen_at y sum)) after ≡ days_outcome opening closings limit b ds
      answer_chosen wide y z after e =
          let l : y ≡ k.within.late = z ∙ ap lowered k.lateness ∙ w.late in
          let o : after ≡ written (flatten (plan_orders desks k.within.plans)) b = e ∙
          ap (λ (os : List (List ℕ)). written (flatten os) b) orders_same in
          (λ i. gives (Ok (chosen_at (l i) (k.overtime i))) (o i)) ∙
          sym (days_some opening closings limit b ds (omega (arith, r.summed)) _ (chosen_is (some k.within) k.is))
