-- Asking several lists with ever smaller bounds: what is known so far, and where it ends.
-- Assumes nothing.
use Prim.Native.Nat.{ℕ, zero, suc, ◌+◌, ◌-◌, ◌≤◌, ◌<◌}
use native.Mathlib.Omega.{arith}
use mathlib.Core.Bool.{false}
use mathlib.Core.Path.{◌≡◌, refl, sym, ap, ap₂, ◌∙◌, subst}
use mathlib.Core.List.Memᴰ
use mathlib.Core.List.{List, [], ◌∷◌, map, Memᴰ}
use mathlib.Core.Logic.{◌⊎◌, inl, inr}
use mathlib.Core.Option.{Option, none, some}
use lib.ListN.{length, length-map, take, replicate, length-replicate, get_or-replicate}
use lib.Seq.{length-take-le, get_or-take}
use lib.IntN.{ℤ, pred_ℤ}
use borrow.Author.Tests.{lt-leb}
use Rattle.std.specs.Prelude.{Option as CodeOption, Some, None}
use Rattle.schedule.specs.Limits.{most_desks}
use Rattle.schedule.specs.Rows.{count_from}
use Rattle.schedule.specs.Desk.{Pair}
use Rattle.schedule.specs.Offset.{raised, lowered}
use Rattle.schedule.specs.Columns.{at}
use Rattle.schedule.proofs.Numbers.{length_count}
use Rattle.schedule.proofs.Signed.{◌≼◌, sub_level}
use Rattle.schedule.proofs.SignedWords.{raised_lowered}
use Rattle.search.proofs.Signs.{lowered_pred}
use Rattle.refusals.proofs.Tests.{never}
use Rattle.listing.specs.Fronts.{pairs_of}
use Rattle.overtime.specs.Choices.{overtimes, lates, greatest_late, first_plans, keeps_limit, listed_lates, LeastPlans, best_plans}
use Rattle.overtime.proofs.Firsts.{AllRise}
use Rattle.overtime.proofs.Least.{own, stops, never_keeps, Chooses, chooses}
use Rattle.choice.specs.declared.Taken.{Taken}
use Rattle.choice.specs.Lists.{ends_at, lates_at, list_at, lists_in, ListedAt, Listed, Behind, taken_at, taken_of, taken_by, best_of}
use Rattle.choice.proofs.Places.{place_smaller}

-- What is there is one thing.
pub same_taken : {a b : Taken} → Some a ≡ Some b → a ≡ b
same_taken e = cc

-- A lateness of pairs in columns is one of the column's, lowered.
late_at : (es ls : List ℕ) {z : ℤ} → Memᴰ z (lates (pairs_of es ls)) → (k : ℕ) × (k < length ls) × (z ≡ lowered (at ls k))
unfolding pairs_of
late_at [] ls m = absurd (Memᴰ.not-nil m)
late_at (e ∷ es) [] m = absurd (Memᴰ.not-nil m)
late_at (e ∷ es) (l ∷ ls) {z} m = step (Memᴰ.cases_cons m) (λ n. late_at es ls n)
  where
    step : (z ≡ lowered l) ⊎ Memᴰ z (lates (pairs_of es ls)) →
        (Memᴰ z (lates (pairs_of es ls)) → (k : ℕ) × (k < length ls) × (z ≡ lowered (at ls k))) →
        (k : ℕ) × (k < suc (length ls)) × (z ≡ lowered (at (l ∷ ls) k))
    step (inl e) f = (0, omega arith, e)
    step (inr n) f = let u = f n in (suc u.0, omega (arith, u.1), u.2)

-- A raised lateness in range.
pub record Raised (z : ℤ) : Type 0 where
  pub number : ℕ
  pub is : z ≡ lowered number
  pub low : 1 ≤ number
  pub high : number ≤ 4294967295

at_raised : (count : ℕ) (ends lates : List ℕ) → ListedAt count ends lates → {z : ℤ} →
    Memᴰ z (map (λ (p : Pair). p.late) (pairs_of (take count ends) (take count lates))) → Raised z
at_raised count ends lates l m =
    let u = late_at (take count ends) (take count lates) m in
    let k : u.0 < count = omega (arith, u.1, length-take-le count lates (omega (arith, l.few, l.late_places))) in
    let r = l.ranged u.0 k in
    record { number = at lates u.0; is = u.2 ∙ ap lowered (get_or-take count lates u.0 0 k); low = r.0; high = r.1 }

-- Of lists that are numbered.
module _ (plans : List ℕ) (fronts : List (List ℕ)) where
  all_rise : (n i : ℕ) → ((e : ℕ) → i ≤ e → e < i + n → ListedAt (at plans e) (ends_at fronts e) (lates_at fronts e)) →
      AllRise (map (list_at plans fronts) (count_from i n))
  unfolding count_from
  all_rise zero i h = tt
  all_rise (suc n) i h = ((h i (omega arith) (omega arith)).rising, all_rise n (suc i) (λ e l k. h e (omega arith) (omega arith)))

  all_raised : (n i : ℕ) → ((e : ℕ) → i ≤ e → e < i + n → ListedAt (at plans e) (ends_at fronts e) (lates_at fronts e)) → {z : ℤ} →
      Memᴰ z (listed_lates (map (list_at plans fronts) (count_from i n))) → Raised z
  unfolding count_from listed_lates
  all_raised zero i h m = absurd (Memᴰ.not-nil m)
  all_raised (suc n) i h {z} m =
      step (Memᴰ.append_cases (lates (list_at plans fronts i)) m)
      (λ r. all_raised n (suc i) (λ e l k. h e (omega arith) (omega arith)) r)
    where
      step : Memᴰ z (lates (list_at plans fronts i)) ⊎ Memᴰ z (listed_lates (map (list_at plans fronts) (count_from (suc i) n))) →
          (Memᴰ z (listed_lates (map (list_at plans fronts) (count_from (suc i) n))) → Raised z) → Raised z
      step (inl r) f = at_raised (at plans i) (ends_at fronts i) (lates_at fronts i) (h i (omega arith) (omega arith)) r
      step (inr r) f = f r

module _ (plans : List ℕ) (fronts : List (List ℕ)) (closings : List ℕ) (limit : ℕ) where
  abbrev lists : List (List Pair)
  lists = lists_in plans fronts (length closings)

  -- Nothing is taken yet; or plans that keep the limit are, and the bound is one below their greatest lateness.
  pub record SoFar (late sum bound : ℕ) : Type 0 where
    pub asked : ℤ
    pub taken : List Pair
    pub first : first_plans asked lists ≡ some taken
    pub greatest : lowered late ≡ greatest_late taken
    pub total : sum ≡ overtimes closings taken
    pub kept : sum ≤ limit
    pub low : 1 ≤ late
    pub below : bound ≡ late - 1

  abbrev pub Standing : CodeOption Taken → ℕ → Type 0
  Standing None bound = bound ≡ 4294967295
  Standing (Some t) bound = SoFar t.late t.overtime bound

  module _ (listed : Listed plans fronts (length closings)) (some_desk : 1 ≤ length closings) where
    some_list : 0 < length lists
    some_list = omega (arith, length-map (count_from 0 (length closings)) (list_at plans fronts), length_count 0 (length closings))

    rise : AllRise lists
    rise = all_rise plans fronts (length closings) 0 (λ e l k. listed e (omega arith))

    in_range : {z : ℤ} → Memᴰ z (listed_lates lists) → Raised z
    in_range m = all_raised plans fronts (length closings) 0 (λ e l k. listed e (omega arith)) m

    -- What is answered where the first plans within the bound do not keep the limit.
    pub ended : (best : CodeOption Taken) (bound : ℕ) → Standing best bound →
        keeps_limit limit closings (first_plans (lowered bound) lists) ≡ false → best ≡ best_of limit closings lists
    unfolding taken_by
    ended None bound s n =
        sym (ap (taken_by closings) (never_keeps limit closings lists some_list rise (lowered bound) (λ z m.
        let r = in_range m in
        subst (λ (x : ℤ). x ≼ lowered bound) (sym r.is)
        (omega (arith, r.high, sub_level r.number 2147483648, sub_level bound 2147483648))) n))
    ended (Some t) bound s n =
        let e : lowered bound ≡ pred_ℤ (greatest_late s.taken) =
        ap lowered s.below ∙ lowered_pred t.late s.low ∙ ap pred_ℤ s.greatest in
        let f = stops limit closings lists some_list rise s.asked s.taken s.first (omega (arith, s.total, s.kept))
        (subst (λ (y : ℤ). keeps_limit limit closings (first_plans y lists) ≡ false) e n) in
        ap₂ (λ (l o : ℕ). Some (taken_at l o)) (sym (raised_lowered t.late) ∙ ap raised s.greatest) s.total ∙ sym (ap (taken_by closings) f)

    -- The first plans within the bound are none; or they do not keep the limit; or they do, and are what is taken so far.
    module _ (bound : ℕ) where
      abbrev here : Option (List Pair)
      here = first_plans (lowered bound) lists

      none_kept : (o : Option (List Pair)) → taken_of closings o ≡ None → keeps_limit limit closings o ≡ false
      unfolding taken_of
      none_kept none e = refl
      none_kept (some ps) e = never (cc)

      pub ends_none : (best : CodeOption Taken) → Standing best bound → taken_of closings here ≡ None → best ≡ best_of limit closings lists
      ends_none best s e = ended best bound s (none_kept here e)

      over_limit : (o : Option (List Pair)) (late sum : ℕ) → taken_of closings o ≡ Some (taken_at late sum) → limit < sum →
          keeps_limit limit closings o ≡ false
      unfolding taken_of
      over_limit none late sum e h = never (cc)
      over_limit (some ps) late sum e h =
          let s : overtimes closings ps ≡ sum = ap (λ (t : Taken). t.overtime) (same_taken e) in
          lt-leb (overtimes closings ps) limit (omega arith)

      pub ends_over : (best : CodeOption Taken) → Standing best bound → (late sum : ℕ) → taken_of closings here ≡ Some (taken_at late sum) →
          limit < sum → best ≡ best_of limit closings lists
      ends_over best s late sum e h = ended best bound s (over_limit here late sum e h)

      pub record Goes (late sum : ℕ) : Type 0 where
        pub stands : SoFar late sum (late - 1)
        pub within : late ≤ bound

      goes_with : (o : Option (List Pair)) → here ≡ o → (late sum : ℕ) → taken_of closings o ≡ Some (taken_at late sum) → sum ≤ limit →
          Goes late sum
      unfolding taken_of
      goes_with none q late sum e h = never (cc)
      goes_with (some ps) q late sum e h =
          let s : overtimes closings ps ≡ sum = ap (λ (t : Taken). t.overtime) (same_taken e) in
          let l : raised (greatest_late ps) ≡ late = ap (λ (t : Taken). t.late) (same_taken e) in
          let w = own limit closings lists some_list rise (lowered bound) ps q (omega arith) in
          let r = in_range w.listed in
          let n : late ≡ r.number = sym l ∙ ap raised r.is ∙ raised_lowered r.number in
          let g : lowered late ≡ greatest_late ps = ap lowered n ∙ sym r.is in
          let most : lowered late ≼ lowered bound = subst (λ (x : ℤ). x ≼ lowered bound) (sym g) w.most in
          record {
            stands = record {
              asked = lowered bound;
              taken = ps;
              first = q;
              greatest = g;
              total = sym s;
              kept = h;
              low = omega (arith, r.low);
              below = refl;
            };
            within = omega (arith, most, sub_level late 2147483648, sub_level bound 2147483648);
          }

      pub goes : (late sum : ℕ) → taken_of closings here ≡ Some (taken_at late sum) → sum ≤ limit → Goes late sum
      goes late sum e h = goes_with here refl late sum e h

    -- What is known of the plans that are chosen: the limit is kept, and the lateness comes back from what it is raised to.
    pub record Known (w : LeastPlans) : Type 0 where
      pub first : first_plans (lowered (raised w.late)) lists ≡ some w.plans
      pub late : lowered (raised w.late) ≡ w.late
      pub kept : overtimes closings w.plans ≤ limit

    best_for : (o : Option LeastPlans) → Chooses limit closings lists some_list rise o → (w : LeastPlans) → o ≡ some w → Known w
    best_for none c w e = never (cc)
    best_for (some v) c w e =
        let same : v ≡ w = cc in
        subst Known same (
        let o = own limit closings lists some_list rise v.late v.plans c.first c.kept in
        let r = in_range (subst (λ (z : ℤ). Memᴰ z (listed_lates lists)) c.late o.listed) in
        let back : lowered (raised v.late) ≡ v.late = ap (λ (z : ℤ). lowered (raised z)) r.is ∙
        ap lowered (raised_lowered r.number) ∙ sym r.is in
        record {
          first = ap (λ (z : ℤ). first_plans z lists) back ∙ c.first;
          late = back;
          kept = c.kept;
        }
        )

    pub best : (w : LeastPlans) → best_plans limit closings lists ≡ some w → Known w
    best w e = best_for (best_plans limit closings lists) (chooses limit closings lists some_list rise) w e

-- Cursors at the beginning, and with a smaller bound.
pub behind_first : (plans : List ℕ) (fronts : List (List ℕ)) (m bound : ℕ) → m ≤ most_desks →
    Behind plans fronts m bound (replicate most_desks 0)
behind_first plans fronts m bound h = record {
  places = length-replicate {A = ℕ} most_desks 0;
  behind = λ e l. omega (arith, get_or-replicate {A = ℕ} most_desks e 0 0 (omega arith));
}

pub behind_smaller : (plans : List ℕ) (fronts : List (List ℕ)) (m bound smaller : ℕ) (cursors : List ℕ) → smaller ≤ bound →
    Behind plans fronts m bound cursors → Behind plans fronts m smaller cursors
behind_smaller plans fronts m bound smaller cursors h b = record {
  places = b.places;
  behind = λ e l.
      omega (arith, b.behind e l, place_smaller bound smaller (take (at plans e) (lates_at fronts e)) h);
}
