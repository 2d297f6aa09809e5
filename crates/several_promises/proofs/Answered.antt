-- What the call gives of days whose books are all accepted: best orders, or that no orders of the desks keep the limit. Assumes nothing.
use Prim.Native.Nat.{ℕ, zero, suc, ◌≤◌, ◌<◌}
use native.Mathlib.Omega.{arith}
use mathlib.Core.Bool.{Bool, true, false, cond}
use mathlib.Core.Path.{◌≡◌, refl, sym, ap, ap₂, ◌∙◌, subst}
use mathlib.Core.List.Memᴰ
use mathlib.Core.List.{List, [], ◌∷◌, flatten, Memᴰ}
use mathlib.Core.Logic.{◌⊎◌, inl, inr}
use mathlib.Core.Option.{Option, none, some, some-injective, none-ne-some}
use lib.Dec.{T}
use lib.ListN.{length, length-map, get_or, get_elem?}
use lib.IntN.{ℤ}
use lib.Signed.{le_z, ◌≤ℤ◌}
use Rattle.schedule.specs.Rows.{Day}
use Rattle.schedule.specs.Desk.{Pair}
use Rattle.schedule.proofs.Tests.{is_true}
use Rattle.schedule.proofs.Filling.{mapped_at}
use Rattle.readers.specs.Reads.{ordering_rule}
use Rattle.readers.specs.Accepted.{AcceptedDay}
use Rattle.readers.proofs.Accepted.{accepted_day}
use Rattle.results.specs.Results.{written}
use Rattle.outcomes.specs.Planning.{Outcome, gives, nth, Planning}
use Rattle.calls.specs.Planned.{planned}
use Rattle.promises.proofs.Accepted.{takes}
use Rattle.promises.proofs.Promise.{day_sound}
use Rattle.overtime.specs.Choices.{greatest_late, first_within, first_plans, or_empty, plan_orders, lists_of, Chosen, best_choice}
use Rattle.overtime.specs.Best.{pairs_by, HasPromise, Best, DesksPromise}
use Rattle.overtime.proofs.Firsts.{first_of, firsts}
use Rattle.overtime.proofs.Best.{several_desks}
use Rattle.several_books.specs.Days.{rows_of, no_day}
use Rattle.several_lent.proofs.Sums.{lent_right}
use Rattle.several.specs.Answers.{said_several, said_chosen}
use Rattle.several.specs.Calls.{SeveralAnswer, desks_of, days_outcome, several_call}
use Rattle.several.proofs.Outcomes.{days_none, days_some, call_days}
use Rattle.several_promises.specs.Table.{several, book_at, TakesAll, Right}
use Rattle.several_promises.specs.Promise.{FirstListed, Answered, chosen, unkept}
use Rattle.several_promises.proofs.Books.{days_taken}

-- An element of a list stands at some place.
mem_at : {A : Type 0} (past : A) (xs : List A) {x : A} → Memᴰ x xs → (e : ℕ) × (e < length xs) × (get_or xs e past ≡ x)
mem_at past [] m = absurd (Memᴰ.not-nil m)
mem_at {A} past (y ∷ ys) {x} m = step (Memᴰ.cases_cons m) (λ n. mem_at past ys n)
  where
    step : (x ≡ y) ⊎ Memᴰ x ys → (Memᴰ x ys → (e : ℕ) × (e < length ys) × (get_or ys e past ≡ x)) →
        (e : ℕ) × (e < suc (length ys)) × (get_or (y ∷ ys) e past ≡ x)
    step (inl e) f = (0, omega arith, sym e)
    step (inr n) f = let u = f n in (suc u.0, omega (arith, u.1), u.2)

-- Every day of accepted books is an accepted day; so its desk has the list by its definition and best orders.
pub all_accepted : (opening : ℕ) (books lengths : List ℕ) (ds : List Day) → TakesAll opening books lengths ds →
    (day : Day) → Memᴰ day ds → AcceptedDay (ordering_rule opening) day
all_accepted opening books lengths ds t day m =
    let terms = ordering_rule opening in
    let v = mem_at no_day ds m in
    let w = t.each v.0 (omega (arith, v.1, t.many)) in
    let r = (takes terms (book_at lengths books v.0) (get_or ds v.0 no_day)).1 w in
    subst (AcceptedDay terms) v.2 (accepted_day terms (book_at lengths books v.0) (get_or ds v.0 no_day) r)

pub all_planned : (opening : ℕ) (books lengths : List ℕ) (ds : List Day) → TakesAll opening books lengths ds →
    (d : Planning) → Memᴰ d (desks_of opening ds) → HasPromise d
all_planned opening books lengths ds t d m =
    let u = Memᴰ.of_map (planned (ordering_rule opening)) ds m in
    let s = day_sound (all_accepted opening books lengths ds t u.0 u.1) in
    subst HasPromise u.2 (s.front, s.promise)

-- The first plan within a bound, by its number.
module _ (y : ℤ) where
  record Numbered (ps : List Pair) (p : Pair) : Type 0 where
    at : ℕ
    there : get_elem? ps at ≡ some p
    within : p.late ≤ℤ y
    none_before : (j : ℕ) (q : Pair) → j < at → get_elem? ps j ≡ some q → ¬ (q.late ≤ℤ y)

  numbered : (ps : List Pair) (p : Pair) → first_within y ps ≡ some p → Numbered ps p
  unfolding first_within
  numbered [] p e = absurd (none-ne-some p e)
  numbered (q ∷ qs) p e = step (le_z q.late y) refl e (numbered qs p)
    where
      step : (b : Bool) → le_z q.late y ≡ b → cond b (some q) (first_within y qs) ≡ some p → (first_within y qs ≡ some p → Numbered qs p) →
          Numbered (q ∷ qs) p
      step true h e f = let same : q ≡ p = some-injective q p e in record {
        at = 0;
        there = ap some same;
        within = subst (λ (x : Pair). x.late ≤ℤ y) same (record { le = is_true _ h });
        none_before = λ j x l g. let z : ⊥ = omega arith in absurd z;
      }
      step false h e f = let n = f e in record {
        at = suc n.at;
        there = n.there;
        within = n.within;
        none_before = λ j x l g. before n.at n.none_before j x l g;
      }
        where
          before : (k : ℕ) → ((j : ℕ) (x : Pair) → j < k → get_elem? qs j ≡ some x → ¬ (x.late ≤ℤ y)) → (j : ℕ) (x : Pair) → j < suc k →
              get_elem? (q ∷ qs) j ≡ some x → ¬ (x.late ≤ℤ y)
          before k f zero x l g v =
              subst T h (subst (λ (z : Pair). T (le_z z.late y)) (sym (some-injective q x g)) v.le)
          before k f (suc j) x l g v = f j x (omega arith) g v

  -- A desk's order, where its first plan within the bound is p.
  listed_first : (d : Planning) → HasPromise d → (p : Pair) → first_within y d.plans ≡ some p →
      FirstListed d y (or_empty (d.orders p.late))
  unfolding nth
  listed_first d g p e =
      let n = numbered d.plans p e in
      let f = first_of y d.plans (rw g.0 g.1.rising) p e in
      let a = g.1.attains p (subst (Memᴰ p) g.0 f.listed) in
      record {
        number = suc n.at;
        plan = p;
        is_listed = n.there;
        within = n.within;
        none_before = λ k q l h. before n.at n.none_before k q l h;
        its_order = a.1 ∙ ap (λ (o : Option (List ℕ)). some (or_empty o)) (sym a.1);
      }
    where
      before : (at : ℕ) → ((j : ℕ) (q : Pair) → j < at → get_elem? d.plans j ≡ some q → ¬ (q.late ≤ℤ y)) → (k : ℕ) (q : Pair) →
          k < suc at → nth d.plans k ≡ some q → ¬ (q.late ≤ℤ y)
      before at f zero q l h = absurd (none-ne-some q h)
      before at f (suc k) q l h = f k q (omega arith) h

  first_each : (past : Planning) (ds : List Planning) → ((d : Planning) → Memᴰ d ds → HasPromise d) → (ps : List Pair) →
      first_plans y (lists_of ds) ≡ some ps → (e : ℕ) → e < length ds → FirstListed (get_or ds e past) y (get_or (plan_orders ds ps) e [])
  first_each past [] g ps h e l = let z : ⊥ = omega arith in absurd z
  first_each past (d ∷ ds) g ps h e l =
      let u = firsts y d.plans (lists_of ds) ps h in
      subst (λ (qs : List Pair). FirstListed (get_or (d ∷ ds) e past) y (get_or (plan_orders (d ∷ ds) qs) e [])) u.4
      (step u.0 u.1 u.2 (λ i k. first_each past ds (λ c m. g c (Memᴰ.tail m)) u.1 u.3 i k) e l)
    where
      step : (p : Pair) (rest : List Pair) → first_within y d.plans ≡ some p →
          ((i : ℕ) → i < length ds → FirstListed (get_or ds i past) y (get_or (plan_orders ds rest) i [])) → (e : ℕ) → e < suc (length ds) →
          FirstListed (get_or (d ∷ ds) e past) y (get_or (plan_orders (d ∷ ds) (p ∷ rest)) e [])
      step p rest f more zero l = unfold plan_orders in listed_first d (g d (Memᴰ.head refl)) p f
      step p rest f more (suc e) l = unfold plan_orders in more e (omega arith)

-- What the call gives, in the numbers of the table.
pub told_as : (opening : ℕ) (books lengths closings : List ℕ) (limit : ℕ) (b : List ℕ) (x : Outcome SeveralAnswer) →
    several_call opening books lengths closings limit b ≡ x →
    several opening books lengths closings limit b ≡ gives (said_several x.answer) x.buffer
told_as opening books lengths closings limit b x e =
    ap (λ (o : Outcome SeveralAnswer). gives (said_several o.answer) o.buffer) e

module _ (opening : ℕ) (books lengths closings : List ℕ) (limit : ℕ) (b : List ℕ) (ds : List Day)
    (right : Right opening books lengths closings limit b) (taken : TakesAll opening books lengths ds) where
  abbrev desks : List Planning
  desks = desks_of opening ds

  many : length desks ≡ length lengths
  many = length-map ds (planned (ordering_rule opening)) ∙ taken.many

  pub promise : DesksPromise limit closings desks
  promise =
      several_desks limit closings desks (right.even ∙ sym many) (omega (arith, many, right.some_desk))
      (all_planned opening books lengths ds taken)

  pub call_of_days : several_call opening books lengths closings limit b ≡ days_outcome opening closings limit b ds
  call_of_days =
      call_days opening books lengths closings limit b ((lent_right opening (length books) lengths closings limit).1 right) ds
      ((days_taken opening books lengths ds).1 taken)

  pub is_answered : rows_of ds ≤ length b → Answered opening closings limit b ds (several opening books lengths closings limit b)
  is_answered wide = step (best_choice limit closings desks) refl
    where
      step : (x : Option Chosen) → best_choice limit closings desks ≡ x →
          Answered opening closings limit b ds (several opening books lengths closings limit b)
      step none e = unkept (promise.none_keep.0 e) (told_as opening books lengths closings limit b _ (call_of_days ∙
          days_none opening closings limit b ds wide e))
      step (some a) e =
          let r = promise.best a e in
          let l = sym r.late in
          chosen a.orders
          (record {
            kept = r.kept;
            least = λ others k. subst (λ (z : ℤ). z ≤ℤ greatest_late (pairs_by desks others)) l (r.least others
                k);
          })
          (λ i h. each a r i h)
          (told_as opening books lengths closings limit b _ (call_of_days ∙ days_some opening closings limit b ds wide a e) ∙
          ap₂ (λ (y : ℤ) (n : ℕ). gives (said_chosen y n) (written (flatten a.orders) b)) l (sym r.overtime))
        where
          each : (a : Chosen) → Best limit closings desks a → (i : ℕ) → i < length ds →
              FirstListed (planned (ordering_rule opening) (get_or ds i no_day)) (greatest_late (pairs_by desks a.orders)) (get_or a.orders i [])
          each a r i h =
              let past : Planning = planned (ordering_rule opening) no_day in
              let f = first_each a.late past desks (all_planned opening books lengths ds taken) (pairs_by desks a.orders) r.first i
              (omega (arith, many, taken.many)) in
              let d : get_or desks i past ≡ planned (ordering_rule opening) (get_or ds i no_day) =
              mapped_at (planned (ordering_rule opening)) ds i no_day past h in
              subst (λ (os : List (List ℕ)). FirstListed (planned (ordering_rule opening) (get_or ds i no_day))
              (greatest_late (pairs_by desks a.orders)) (get_or os i [])) r.ordered
              (subst (λ (z : ℤ). FirstListed (planned (ordering_rule opening) (get_or ds i no_day)) z
              (get_or (plan_orders desks (pairs_by desks a.orders)) i [])) (sym r.late)
              (subst (λ (g : Planning). FirstListed g a.late (get_or (plan_orders desks (pairs_by desks a.orders)) i [])) d f))
