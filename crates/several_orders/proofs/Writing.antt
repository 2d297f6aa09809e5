-- Orders written desk after desk. Assumes nothing.
use Prim.Native.Nat.{ℕ, zero, suc, ◌+◌, ◌-◌, ◌≤◌, ◌<◌}
use native.Mathlib.Omega.{arith}
use native.Mathlib.Numerals.{add-one}
use mathlib.Core.Path.{◌≡◌, refl, sym, ap, ◌∙◌, subst}
use mathlib.Core.List.{List, [], ◌∷◌, ◌++◌, flatten, append-nil, append_assoc, Memᴰ}
use mathlib.Core.Option.{Option, some}
use lib.ListN.{length, take, drop, get_or, length-append, length-drop, drop_of_length-le}
use lib.Seq.{take_all, take_at, drop_at, drop-drop}
use Rattle.schedule.specs.Rows.{count_from}
use Rattle.schedule.specs.Desk.{Pair}
use Rattle.schedule.specs.Offset.{lowered}
use Rattle.schedule.specs.Columns.{at}
use Rattle.listing.specs.Fronts.{pair_at, pairs_of}
use Rattle.listing.proofs.Fronts.{first_length, first_at_lem}
use Rattle.arrival.specs.Given.{written_of}
use Rattle.results.specs.Results.{written}
use Rattle.outcomes.specs.Planning.{Planning}
use Rattle.outcomes.proofs.Columns.{sound_in, order_length}
use Rattle.overtime.specs.Choices.{or_empty}
use Rattle.choice.specs.Lists.{lates_at, place_at}
use Rattle.choice.proofs.Taking.{map_last}
use Rattle.several_books.specs.Held.{Slot, slot_at, planning_at, SlotReady}
use Rattle.several_books.proofs.Reading.{at_mem}
use Rattle.several_orders.specs.Orders.{rows_to, order_at, orders_to, CanOrder}

-- The order of a listed plan: there is one, and it has every row.
module _ (s : Slot) (r : SlotReady s) (k : ℕ) (h : k < s.plans) where
  abbrev g : Planning
  g = planning_at s

  pub record PlanOrder : Type 0 where
    pub order : List ℕ
    pub is : g.orders (lowered (at s.lates k)) ≡ some order
    pub whole : length order ≡ s.rows

  pub plan_order : PlanOrder
  plan_order =
      let l = r.listed in
      let list : List Pair = pairs_of (take s.plans s.ends) (take s.plans s.lates) in
      let q : Pair = pair_at (at s.ends k) (at s.lates k) in
      let e : s.plans ≤ length s.ends = omega (arith, l.few, l.end_places) in
      let f : s.plans ≤ length s.lates = omega (arith, l.few, l.late_places) in
      let m : Memᴰ (get_or list k q) list = at_mem list k q (omega (arith, first_length s.ends s.lates s.plans e f)) in
      let n : Memᴰ q g.plans = subst (Memᴰ q) r.list
      (subst (λ (x : Pair). Memᴰ x list) (first_at_lem s.ends s.lates s.plans e f k q h) m) in
      let w = sound_in r.plannable in
      let u = w.promise.attains q (subst (Memᴰ q) w.front n) in
      record { order = u.0; is = u.1; whole = order_length r.plannable u.2.0 }

flatten_more : (xs : List (List ℕ)) (x : List ℕ) → flatten (xs ++ (x ∷ [])) ≡ flatten xs ++ x
unfolding flatten
flatten_more [] x = append-nil x
flatten_more (y ∷ xs) x = ap (λ (l : List ℕ). y ++ l) (flatten_more xs x) ∙ sym (append_assoc y (flatten xs) x)

module _ (free rows plans : List ℕ) (columns fronts : List (List ℕ)) (bound desks : ℕ) where
  abbrev orders : ℕ → List ℕ
  orders d = flatten (orders_to free rows plans columns fronts bound d)

  -- The orders of the first d desks stand in front of what the buffer held.
  pub record WrittenTo (entry result : List ℕ) (place d : ℕ) : Type 0 where
    pub within : d ≤ desks
    pub rows_so_far : place ≡ rows_to rows d
    pub sized : length (orders d) ≡ place
    pub holds : result ≡ orders d ++ drop place entry

  pub written_none : (entry : List ℕ) → WrittenTo entry entry 0 0
  unfolding count_from flatten rows_to
  written_none entry = record { within = omega arith; rows_so_far = refl; sized = refl; holds = refl }

  rows_more : (d n : ℕ) → d + n ≤ desks → rows_to rows d ≤ rows_to rows (d + n)
  unfolding rows_to
  rows_more d zero h = let e : d + 0 ≡ d = omega arith in rw e (omega arith)
  rows_more d (suc n) h = let e : d + suc n ≡ suc (d + n) = omega arith in rw e (omega (arith, rows_more d n (omega arith)))

  -- There is room for the next order.
  pub room : (d : ℕ) → d < desks → rows_to rows d + at rows d ≤ rows_to rows desks
  unfolding rows_to
  room d h =
      let k : ℕ = desks - suc d in
      let e : suc d + k ≡ desks = omega arith in
      subst (λ (n : ℕ). rows_to rows (suc d) ≤ rows_to rows n) e (rows_more (suc d) k (omega arith))

  module _ (can : CanOrder free rows plans columns fronts bound desks) (entry result : List ℕ) (place d : ℕ)
      (w : WrittenTo entry result place d) (h : d < desks) where
    abbrev slot : Slot
    slot = slot_at free rows plans columns fronts d

    abbrev k : ℕ
    k = place_at plans fronts bound d

    abbrev left : ℕ
    left = length result - place

    all_left : take left (drop place result) ≡ drop place result
    all_left = take_all left (drop place result) (omega (arith, length-drop place result))

    none_left : drop left (drop place result) ≡ []
    none_left = drop_of_length-le (drop place result) {i = left} (omega (arith, length-drop place result))

    -- The buffer with an order in the place of all that is left of it.
    pub written_more : (found : ℕ) → found ≡ k → (after : List ℕ) →
        after ≡ written_of ((planning_at slot).orders (lowered (at (lates_at fronts d) found))) (take left (drop place result)) →
        WrittenTo entry (take place result ++ (after ++ drop left (drop place result))) (place + at rows d) (d + 1)
    unfolding written_of
    written_more found there after e =
        let c = can d h in
        let o = plan_order slot c.0 k c.1 in
        let same : order_at free rows plans columns fronts bound d ≡ o.order = ap or_empty o.is in
        let f : orders (suc d) ≡ orders d ++ o.order =
        ap flatten (map_last (order_at free rows plans columns fronts bound) d) ∙
        flatten_more (orders_to free rows plans columns fronts bound d)
        (order_at free rows plans columns fronts bound d) ∙ ap (λ (l : List ℕ). orders d ++ l) same in
        let front : take place result ≡ orders d = ap (take place) w.holds ∙ take_at (orders d) (drop place entry) place w.sized in
        let back : drop place result ≡ drop place entry = ap (drop place) w.holds ∙
        drop_at (orders d) (drop place entry) place w.sized in
        let new : after ≡ o.order ++ drop (place + at rows d) entry =
        e ∙ ap (λ (x : Option (List ℕ)). written_of x (take left (drop place result)))
        (ap (λ (n : ℕ). (planning_at slot).orders (lowered (at (lates_at fronts d) n))) there ∙ o.is) ∙
        ap (λ (l : List ℕ). o.order ++ drop (length o.order) l) all_left ∙
        (λ i. o.order ++ drop (o.whole i) (back i)) ∙ ap (λ (l : List ℕ). o.order ++ l) (drop-drop (at rows d) place entry) in
        rw (add-one d) (record {
          within = omega arith;
          rows_so_far = more;
          sized = ap length f ∙ length-append (orders d) o.order ∙ omega (arith, w.sized, o.whole);
          holds = (λ i. front i ++ (new i ++ none_left i)) ∙ ap (λ (l : List ℕ). orders d ++ l) (append-nil _) ∙
              sym (append_assoc (orders d) o.order (drop (place + at rows d) entry)) ∙
              ap (λ (l : List ℕ). l ++ drop (place + at rows d) entry) (sym f);
        })
      where
        more : place + at rows d ≡ rows_to rows (suc d)
        more = unfold rows_to in omega (arith, w.rows_so_far)

  -- All orders are written.
  pub written_all : (entry result : List ℕ) (place d : ℕ) → WrittenTo entry result place d → d ≡ desks →
      result ≡ written (orders desks) entry
  unfolding written
  written_all entry result place d w e =
      w.holds ∙ ap (λ (n : ℕ). orders d ++ drop n entry) (sym w.sized) ∙
      ap (λ (n : ℕ). orders n ++ drop (length (orders n)) entry) e

  pub same_room : (entry result : List ℕ) (place d : ℕ) → WrittenTo entry result place d → rows_to rows desks ≤ length entry →
      length result ≡ length entry
  same_room entry result place d w h =
      let n : ℕ = desks - d in
      let e : d + n ≡ desks = omega (arith, w.within) in
      let r : rows_to rows d ≤ rows_to rows desks = subst (λ (m : ℕ). rows_to rows d ≤ rows_to rows m) e
      (rows_more d n (omega (arith, w.within))) in
      ap length w.holds ∙ length-append (orders d) (drop place entry) ∙
      omega (arith, length-drop place entry, w.sized, w.rows_so_far, r)
