-- Several desks: the choice that is made is best among all choices of orders. Orders that keep the limit are covered by first listed plans
-- with no more overtime. Assumes nothing.
use Prim.Native.Nat.{ℕ, ◌≤◌, ◌<◌}
use native.Mathlib.Omega.{arith}
use mathlib.Core.Path.{◌≡◌, refl, sym, ap, ◌∙◌, subst}
use mathlib.Core.List.{List, [], ◌∷◌, Memᴰ}
use mathlib.Core.Option.{Option, none, some, some-injective, none-ne-some}
use lib.Dec.{T}
use lib.ListN.{length, length-map}
use lib.IntN.{ℤ}
use lib.Signed.{le_z}
use Rattle.schedule.specs.Desk.{Pair, OrderOf, pair_of, at_most}
use Rattle.schedule.specs.Cover.{Rising}
use Rattle.schedule.proofs.Signed.{◌≼◌, le_z→}
use Rattle.schedule.proofs.Tests.{parts}
use Rattle.schedule.proofs.Cover.{signed}
use Rattle.outcomes.specs.Planning.{Planning}
use Rattle.overtime.specs.Choices.{overtimes, lates, greatest_late, first_within, first_plans, LeastPlans, or_empty, plan_orders, lists_of}
use Rattle.overtime.specs.Choices.{Chosen, chosen_from, best_plans, best_choice}
use Rattle.overtime.specs.Best.{Measures, ChoiceOf, pairs_by, HasPromise, KeepLimit, Best, DesksPromise, SeveralDesks}
use Rattle.overtime.proofs.Firsts.{AllRise, first_of, first_some, firsts, firsts_cons, firsts_of, overtimes_less}
use Rattle.overtime.proofs.Least.{greatest_mem, greatest_kept, greatest_most, greatest_above, Chooses, chooses}

abbrev AllPlanned : List Planning → Type 0
AllPlanned [] = Unit {0}
AllPlanned (d ∷ ds) = HasPromise d × AllPlanned ds

all_planned : (ds : List Planning) → ((d : Planning) → Memᴰ d ds → HasPromise d) → AllPlanned ds
all_planned [] h = tt
all_planned (d ∷ ds) h = (h d (mathlib.Core.List.Memᴰ.head refl), all_planned ds (λ e m. h e (mathlib.Core.List.Memᴰ.tail m)))

rises : (d : Planning) → HasPromise d → Rising d.plans
rises d g = rw g.0 g.1.rising

pub all_rise : (ds : List Planning) → AllPlanned ds → AllRise (lists_of ds)
all_rise [] g = tt
all_rise (d ∷ ds) g = (rises d g.0, all_rise ds g.1)

-- Orders of the desks that are late by at most y are covered: by first listed plans with no more overtime.
cover_plans : (y : ℤ) (ds : List Planning) (os : List (List ℕ)) → AllPlanned ds → ChoiceOf ds os → T (at_most y (lates (pairs_by ds os))) →
    (ps : List Pair) × (first_plans y (lists_of ds) ≡ some ps) ×
    ((closings : List ℕ) → overtimes closings ps ≤ overtimes closings (pairs_by ds os))
unfolding pairs_by at_most
cover_plans y [] [] g c k = unfold first_plans in ([], refl, λ cs. omega arith)
cover_plans y [] (o ∷ os) g c k = absurd c
cover_plans y (d ∷ ds) [] g c k = absurd c
cover_plans y (d ∷ ds) (o ∷ os) g c k =
    let q : Pair = pair_of d.job d.minute o in
    let t = parts (le_z q.late y) (at_most y (lates (pairs_by ds os))) k in
    let v = g.0.1.cover o c.0 in
    let m : Memᴰ v.0 d.plans = subst (Memᴰ v.0) (sym g.0.0) v.1 in
    let l : v.0.late ≼ y = omega (arith, le_z→ v.0.late q.late v.3.le, le_z→ q.late y t.0) in
    let f = first_some y d.plans v.0 m l in
    let s = (first_of y d.plans (rises d g.0) f.0 f.1).soonest v.0 m l in
    let u = cover_plans y ds os g.1 c.1 t.1 in (
      f.0 ∷ u.0,
      firsts_cons y d.plans (lists_of ds) f.1 u.1,
      overtimes_less f.0 q u.0 (pairs_by ds os) (omega (
        arith,
        v.2,
        s,
      )) u.2,
    )

-- The first listed plans are those of their orders.
record Attained (ds : List Planning) (ps : List Pair) : Type 0 where
  chosen : ChoiceOf ds (plan_orders ds ps)
  pairs : pairs_by ds (plan_orders ds ps) ≡ ps

attained_cons : (y : ℤ) (d : Planning) (ds : List Planning) (p : Pair) (ps : List Pair) → HasPromise d → first_within y d.plans ≡ some p →
    Attained ds ps → Attained (d ∷ ds) (p ∷ ps)
unfolding pairs_by plan_orders
attained_cons y d ds p ps g e r =
    let f = first_of y d.plans (rises d g) p e in
    let a = g.1.attains p (subst (Memᴰ p) g.0 f.listed) in
    let o : or_empty (d.orders p.late) ≡ a.0 = ap or_empty a.1 in
    record {
      chosen = (subst (OrderOf d.left) (sym o) a.2.0, r.chosen);
      pairs = cons (ap (pair_of d.job d.minute) o ∙ a.2.1) r.pairs;
    }
  where
    cons : {a b : Pair} {ps qs : List Pair} → a ≡ b → ps ≡ qs → a ∷ ps ≡ b ∷ qs
    cons e f = cc

attained : (y : ℤ) (ds : List Planning) → AllPlanned ds → (ps : List Pair) → first_plans y (lists_of ds) ≡ some ps → Attained ds ps
attained y [] g ps e = unfold first_plans pairs_by plan_orders in
    subst (Attained []) (some-injective [] ps e) (record { chosen = tt; pairs = refl })
attained y (d ∷ ds) g ps e =
    let u = firsts y d.plans (lists_of ds) ps e in
    subst (Attained (d ∷ ds)) u.4
    (attained_cons y d ds u.0 u.1 g.0 u.2 (attained y ds g.1 u.1 u.3))

pairs_length : (ds : List Planning) (os : List (List ℕ)) → ChoiceOf ds os → length (pairs_by ds os) ≡ length ds
unfolding pairs_by
pairs_length [] [] c = refl
pairs_length [] (o ∷ os) c = absurd c
pairs_length (d ∷ ds) [] c = absurd c
pairs_length (d ∷ ds) (o ∷ os) c = omega (arith, pairs_length ds os c.1)

module _ (limit : ℕ) (closings : List ℕ) (ds : List Planning) (some_desk : 0 < length ds) (good : AllPlanned ds) where
  some_list : 0 < length (lists_of ds)
  some_list = omega (arith, length-map ds (λ (d : Planning). d.plans))

  rise : AllRise (lists_of ds)
  rise = all_rise ds good

  -- Orders that keep the limit: first listed plans keep it, and are late by no more.
  covered : (os : List (List ℕ)) → KeepLimit limit closings ds os →
      (y : ℤ) × (ps : List Pair) × (first_plans y (lists_of ds) ≡ some ps) × (overtimes closings ps ≤ limit) ×
      (greatest_late ps ≼ greatest_late (pairs_by ds os))
  covered os k =
      let y : ℤ = greatest_late (pairs_by ds os) in
      let u = cover_plans y ds os good k.0 (greatest_kept (pairs_by ds os) (omega (arith, pairs_length ds os k.0))) in
      let t = firsts_of y (lists_of ds) rise u.0 u.1 in
      let l = greatest_most y u.0 (omega (arith, t.many, some_list)) t.kept in
      (y, u.0, u.1, omega (arith, u.2 closings, k.1), l)

  best_of_lem : (w : LeastPlans) → Chooses limit closings (lists_of ds) some_list rise (some w) →
      Best limit closings ds (record { late = w.late; overtime = overtimes closings w.plans; orders = plan_orders ds w.plans })
  best_of_lem w f =
      let r = attained w.late ds good w.plans f.first in
      record {
        kept = (r.chosen, subst (λ (x : List Pair). overtimes closings x ≤ limit) (sym r.pairs) f.kept);
        overtime = ap (overtimes closings) r.pairs;
        late = ap greatest_late r.pairs ∙ f.late;
        least = λ others k. let u = covered others k in signed (omega (arith, f.least u.0 u.1 u.2 u.3, u.4));
        first = f.first ∙ ap some (sym r.pairs);
        ordered = ap (plan_orders ds) r.pairs;
      }

  abbrev Chooses-here : Option LeastPlans → Type 0
  Chooses-here = Chooses limit closings (lists_of ds) some_list rise

  found : (o : Option LeastPlans) → Chooses-here o → (a : Chosen) → chosen_from closings ds o ≡ some a → Best limit closings ds a
  found none f a e = absurd (none-ne-some a e)
  found (some w) f a e = subst (Best limit closings ds) (some-injective _ a e) (best_of_lem w f)

  nothing : (o : Option LeastPlans) → Chooses-here o → chosen_from closings ds o ≡ none → (os : List (List ℕ)) →
      ¬ KeepLimit limit closings ds os
  nothing none f e os k = let u = covered os k in f u.0 u.1 u.2 u.3
  nothing (some w) f e os k = none-ne-some _ (sym e)

  empty : (o : Option LeastPlans) → Chooses-here o → ((os : List (List ℕ)) → ¬ KeepLimit limit closings ds os) →
      chosen_from closings ds o ≡ none
  empty none f h = refl
  empty (some w) f h = absurd (h (plan_orders ds w.plans) (best_of_lem w f).kept)

  holds : DesksPromise limit closings ds
  unfolding best_choice
  holds =
      let c = chooses limit closings (lists_of ds) some_list rise in
      let o = best_plans limit closings (lists_of ds) in
      record { best = λ a e. found o c a e; none_keep = (λ e. nothing o c e, λ h. empty o c h) }

pub several_desks : SeveralDesks
several_desks limit closings desks even some_desk good = holds limit closings desks some_desk (all_planned desks good)

pub measured : Measures
unfolding overtimes
measured = record {
  no_overtime = λ end closing h. omega arith;
  some_overtime = λ end closing h. omega arith;
  added = λ c cs p ps. refl;
  greatest_one = λ ps h. mathlib.Core.List.Memᴰ.of_map (λ (p : Pair). p.late) ps (greatest_mem ps h);
  greatest_all = λ ps p m. signed (greatest_above ps p m);
}
