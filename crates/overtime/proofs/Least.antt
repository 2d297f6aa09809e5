-- The plans that are chosen of rising lists: those at the least listed lateness at which the first plans keep the limit. They are found by
-- asking with ever smaller latenesses. Assumes nothing.
use Prim.Native.Nat.{ℕ, ◌+◌, ◌≤◌, ◌<◌}
use native.Mathlib.Omega.{arith}
use native.Mathlib.Decide.{dec_le}
use mathlib.Core.Bool.{Bool, true, false, cond}
use mathlib.Core.Path.{◌≡◌, refl, sym, ap, ◌∙◌, subst}
use mathlib.Core.List.Memᴰ
use mathlib.Core.List.{List, [], ◌∷◌, Memᴰ}
use mathlib.Core.Logic.{◌⊎◌, inl, inr}
use mathlib.Core.Option.{Option, none, some}
use lib.Dec.{T, leb→le, le→leb}
use lib.ListN.{length}
use lib.IntN.{ℤ, pred_ℤ}
use lib.Signed.{le_z}
use Rattle.schedule.specs.Desk.{Pair, worst_of, max_z, at_most}
use Rattle.schedule.proofs.Signed.{up, down, ◌≼◌, le_z→, →le_z, le_z_total, level, pred_level}
use Rattle.schedule.proofs.Tests.{parts, is_true, is_false}
use Rattle.schedule.proofs.DeskLaws.{worst_kept, kept_worst}
use Rattle.overtime.specs.Choices.{overtimes, lates, greatest_late, first_plans, keeps_limit, lesser, least_that, listed_lates}
use Rattle.overtime.specs.Choices.{LeastPlans, least_at, least_for, best_plans}
use Rattle.overtime.proofs.Firsts.{AllRise, firsts_of, plans_smaller, plans_larger}

-- The least that passes a test, or that none does.
module _ (test : ℤ → Bool) where
  abbrev Least : List ℤ → Option ℤ → Type 0
  Least ys none = (z : ℤ) → Memᴰ z ys → ¬ T (test z)
  Least ys (some y) = Memᴰ y ys × T (test y) × ((z : ℤ) → Memᴰ z ys → T (test z) → y ≼ z)

  least_of_lem : (ys : List ℤ) → Least ys (least_that test ys)
  unfolding least_that
  least_of_lem [] = λ z m. absurd (Memᴰ.not-nil m)
  least_of_lem (y ∷ ys) = step (test y) refl (least_that test ys) (least_of_lem ys)
    where
      fails : {z : ℤ} → test y ≡ false → (z ≡ y) ⊎ Memᴰ z ys → T (test z) → Memᴰ z ys
      fails h (inl e) t = absurd (subst T (ap test e ∙ h) t)
      fails h (inr n) t = n

      step : (b : Bool) → test y ≡ b → (o : Option ℤ) → Least ys o → Least (y ∷ ys) (cond b (some (lesser y o)) o)
      step false h none f = λ z m t. f z (fails h (Memᴰ.cases_cons m) t) t
      step false h (some x) f = (Memᴰ.tail f.0, f.1, λ z m t. f.2 z (fails h (Memᴰ.cases_cons m) t) t)
      step true h none f = (Memᴰ.head refl, is_true (test y) h, λ z m t. alone z t (Memᴰ.cases_cons m))
        where
          alone : (z : ℤ) → T (test z) → (z ≡ y) ⊎ Memᴰ z ys → y ≼ z
          alone z t (inl e) = subst (λ (x : ℤ). y ≼ x) (sym e) (omega arith)
          alone z t (inr n) = absurd (f z n t)
      step true h (some x) f = pick (le_z y x) refl
        where
          pick : (c : Bool) → le_z y x ≡ c → Least (y ∷ ys) (some (cond c y x))
          pick true g = (Memᴰ.head refl, is_true (test y) h, λ z m t. under z t (Memᴰ.cases_cons m))
            where
              under : (z : ℤ) → T (test z) → (z ≡ y) ⊎ Memᴰ z ys → y ≼ z
              under z t (inl e) = subst (λ (x : ℤ). y ≼ x) (sym e) (omega arith)
              under z t (inr n) = omega (arith, f.2 z n t, le_z→ y x (is_true _ g))
          pick false g = (Memᴰ.tail f.0, f.1, λ z m t. under z t (Memᴰ.cases_cons m))
            where
              under : (z : ℤ) → T (test z) → (z ≡ y) ⊎ Memᴰ z ys → x ≼ z
              under z t (inl e) = subst (λ (w : ℤ). x ≼ w) (sym e) (le_z→ x y (le_z_total y x (is_false _ g)))
              under z t (inr n) = f.2 z n t

-- The greatest lateness of some pairs: it is one of theirs, they keep it, and it is at most each bound that they keep.
worst_mem : (z : ℤ) (zs : List ℤ) → Memᴰ (worst_of (z ∷ zs)) (z ∷ zs)
unfolding worst_of max_z
worst_mem z [] = Memᴰ.head refl
worst_mem z (w ∷ ws) = step (le_z z (worst_of (w ∷ ws))) (worst_mem w ws)
  where
    step : (b : Bool) → Memᴰ (worst_of (w ∷ ws)) (w ∷ ws) → Memᴰ (cond b (worst_of (w ∷ ws)) z) (z ∷ w ∷ ws)
    step true m = Memᴰ.tail m
    step false m = Memᴰ.head refl

pub greatest_mem : (ps : List Pair) → 0 < length ps → Memᴰ (greatest_late ps) (lates ps)
greatest_mem [] h = let z : ⊥ = omega arith in absurd z
greatest_mem (p ∷ ps) h = worst_mem p.late (lates ps)

pub greatest_kept : (ps : List Pair) → 0 < length ps → T (at_most (greatest_late ps) (lates ps))
greatest_kept [] h = let z : ⊥ = omega arith in absurd z
greatest_kept (p ∷ ps) h =
    worst_kept (greatest_late (p ∷ ps)) p.late (lates ps) (→le_z (greatest_late (p ∷ ps)) (greatest_late (p ∷ ps)) (omega arith))

pub greatest_most : (y : ℤ) (ps : List Pair) → 0 < length ps → T (at_most y (lates ps)) → greatest_late ps ≼ y
greatest_most y [] h k = let z : ⊥ = omega arith in absurd z
greatest_most y (p ∷ ps) h k = le_z→ (greatest_late (p ∷ ps)) y (kept_worst y p.late (lates ps) k)

at_most_each : (y : ℤ) (zs : List ℤ) → T (at_most y zs) → (z : ℤ) → Memᴰ z zs → z ≼ y
unfolding at_most
at_most_each y [] k z m = absurd (Memᴰ.not-nil m)
at_most_each y (x ∷ xs) k z m = step (parts (le_z x y) (at_most y xs) k) (Memᴰ.cases_cons m) (λ t n. at_most_each y xs t z n)
  where
    step : T (le_z x y) × T (at_most y xs) → (z ≡ x) ⊎ Memᴰ z xs → (T (at_most y xs) → Memᴰ z xs → z ≼ y) → z ≼ y
    step t (inl e) f = subst (λ (w : ℤ). w ≼ y) (sym e) (le_z→ x y t.0)
    step t (inr n) f = f t.1 n

pub greatest_above : (ps : List Pair) (p : Pair) → Memᴰ p ps → p.late ≼ greatest_late ps
greatest_above [] p m = absurd (Memᴰ.not-nil m)
greatest_above (q ∷ ps) p m =
    at_most_each (greatest_late (q ∷ ps)) (lates (q ∷ ps)) (greatest_kept (q ∷ ps) (omega arith)) p.late (Memᴰ.map (λ (x : Pair). x.late) m)

-- One list or more, and closing minutes.
module _ (limit : ℕ) (closings : List ℕ) (lists : List (List Pair)) (some_list : 0 < length lists) (rise : AllRise lists) where
  abbrev pub fits : ℤ → Bool
  fits y = keeps_limit limit closings (first_plans y lists)

  pub fits_some : (y : ℤ) (ps : List Pair) → first_plans y lists ≡ some ps → overtimes closings ps ≤ limit → T (fits y)
  fits_some y ps e h = rw e (le→leb (overtimes closings ps) limit h)

  some_fits : (y : ℤ) → T (fits y) → (ps : List Pair) × (first_plans y lists ≡ some ps) × (overtimes closings ps ≤ limit)
  some_fits y h = step (first_plans y lists) refl h
    where
      step : (o : Option (List Pair)) → first_plans y lists ≡ o → T (keeps_limit limit closings o) →
          (ps : List Pair) × (o ≡ some ps) × (overtimes closings ps ≤ limit)
      step none e t = absurd t
      step (some ps) e t = (ps, refl, leb→le (overtimes closings ps) limit t)

  -- First plans that keep the limit keep it at their own greatest lateness too, which is listed.
  pub record Own (y : ℤ) (ps : List Pair) : Type 0 where
    pub listed : Memᴰ (greatest_late ps) (listed_lates lists)
    pub here : first_plans (greatest_late ps) lists ≡ some ps
    pub fits : T (fits (greatest_late ps))
    pub most : greatest_late ps ≼ y

  pub own : (y : ℤ) (ps : List Pair) → first_plans y lists ≡ some ps → overtimes closings ps ≤ limit → Own y ps
  own y ps e h =
      let r = firsts_of y lists rise ps e in
      let n : 0 < length ps = omega (arith, r.many) in
      let l = greatest_most y ps n r.kept in
      let g = plans_smaller y (greatest_late ps) l lists ps e (greatest_kept ps n) in
      record { listed = r.listed (greatest_late ps) (greatest_mem ps n); here = g; fits = fits_some (greatest_late ps) ps g h; most = l }

  -- What keeps the limit at some lateness does at each larger one.
  larger : (y z : ℤ) → y ≼ z → T (fits y) → T (fits z)
  larger y z h t =
      let f = some_fits y t in
      let u = plans_larger y z h lists rise f.0 f.1 in
      fits_some z u.0 u.1 (omega (arith, u.2 closings, f.2))

  abbrev least : Option ℤ
  least = least_that fits (listed_lates lists)

  -- What is known of the plans that are chosen, and where none are.
  pub record Found (w : LeastPlans) : Type 0 where
    pub first : first_plans w.late lists ≡ some w.plans
    pub kept : overtimes closings w.plans ≤ limit
    pub late : greatest_late w.plans ≡ w.late
    pub least : (y : ℤ) (ps : List Pair) → first_plans y lists ≡ some ps → overtimes closings ps ≤ limit → w.late ≼ greatest_late ps

  abbrev pub Chooses : Option LeastPlans → Type 0
  Chooses none = (y : ℤ) (ps : List Pair) → first_plans y lists ≡ some ps → ¬ (overtimes closings ps ≤ limit)
  Chooses (some w) = Found w

  chooses_for : (o : Option ℤ) → Least fits (listed_lates lists) o → Chooses (least_for lists o)
  chooses_for none l = λ y ps e h. let w = own y ps e h in l (greatest_late ps) w.listed w.fits
  chooses_for (some y) l = at (first_plans y lists) refl
    where
      at : (q : Option (List Pair)) → first_plans y lists ≡ q → Chooses (least_at y q)
      at none e = absurd (subst T (ap (keeps_limit limit closings) e) l.1)
      at (some ps) e =
          let h : overtimes closings ps ≤ limit = leb→le (overtimes closings ps) limit (subst T (ap (keeps_limit limit closings) e) l.1) in
          let w = own y ps e h in
          record {
            first = e;
            kept = h;
            late = level (greatest_late ps) y (omega (arith, w.most, l.2 (greatest_late ps) w.listed w.fits));
            least = λ z qs f k. let v = own z qs f k in l.2 (greatest_late qs) v.listed v.fits;
          }

  pub chooses : Chooses (best_plans limit closings lists)
  unfolding best_plans
  chooses = chooses_for least (least_of_lem fits (listed_lates lists))

  -- First plans that keep the limit, where those within the number before their greatest lateness do not: they are chosen.
  stops_for : (y : ℤ) (ps : List Pair) → first_plans y lists ≡ some ps → overtimes closings ps ≤ limit →
      ¬ T (fits (pred_ℤ (greatest_late ps))) → (o : Option ℤ) → Least fits (listed_lates lists) o →
      least_for lists o ≡ some (record { late = greatest_late ps; plans = ps })
  stops_for y ps e h n none l = let w = own y ps e h in absurd (l (greatest_late ps) w.listed w.fits)
  stops_for y ps e h n (some v) l = step (dec_le (up v + down (pred_ℤ g)) (up (pred_ℤ g) + down v))
    where
      g : ℤ
      g = greatest_late ps

      w : Own y ps
      w = own y ps e h

      step : Dec (v ≼ pred_ℤ g) → least_for lists (some v) ≡ some (record { late = g; plans = ps })
      step (yes q) = absurd (n (larger v (pred_ℤ g) q l.1))
      step (no q) =
          let same : v ≡ g = level v g (omega (arith, l.2 g w.listed w.fits, pred_level g)) in
          ap (λ (x : ℤ). least_for lists (some x)) same ∙ ap (least_at g) w.here

  pub stops : (y : ℤ) (ps : List Pair) → first_plans y lists ≡ some ps → overtimes closings ps ≤ limit →
      fits (pred_ℤ (greatest_late ps)) ≡ false → best_plans limit closings lists ≡ some (record { late = greatest_late ps; plans = ps })
  unfolding best_plans
  stops y ps e h n = stops_for y ps e h (λ t. subst T n t) least (least_of_lem fits (listed_lates lists))

  -- Where the first plans within a number that no listed lateness passes do not keep the limit, none do.
  pub never_keeps : (y : ℤ) → ((z : ℤ) → Memᴰ z (listed_lates lists) → z ≼ y) → fits y ≡ false → best_plans limit closings lists ≡ none
  unfolding best_plans
  never_keeps y top n = step least (least_of_lem fits (listed_lates lists))
    where
      step : (o : Option ℤ) → Least fits (listed_lates lists) o → least_for lists o ≡ none
      step none l = refl
      step (some v) l = absurd (subst T n (larger v y (top v l.0) l.1))
