-- The first plans of rising lists within a bound: they end soonest of those within it, and are the first for a smaller bound too that they
-- keep. Assumes nothing.
use Prim.Native.Nat.{ℕ, ◌≤◌}
use native.Mathlib.Omega.{arith}
use mathlib.Core.Bool.{Bool, true, false, cond}
use mathlib.Core.Path.{◌≡◌, refl, sym, ap, ◌∙◌, subst}
use mathlib.Core.List.Memᴰ
use mathlib.Core.List.{List, [], ◌∷◌, ◌++◌, Memᴰ}
use mathlib.Core.Logic.{◌⊎◌, inl, inr}
use mathlib.Core.Option.{Option, none, some, some-injective, none-ne-some}
use lib.Dec.{T}
use lib.ListN.{length}
use lib.IntN.{ℤ}
use lib.Signed.{le_z}
use Rattle.schedule.specs.Desk.{Pair, at_most}
use Rattle.schedule.specs.Cover.{Rising}
use Rattle.schedule.proofs.Signed.{◌≼◌, le_z→, →le_z}
use Rattle.schedule.proofs.Tests.{both, parts, is_true}
use Rattle.overtime.specs.Choices.{overtimes, lates, first_within, in_front, first_plans, listed_lates}

-- The first of a rising list that is late by at most y ends soonest of those that are.
pub record FirstOf (y : ℤ) (ps : List Pair) (p : Pair) : Type 0 where
  pub listed : Memᴰ p ps
  pub kept : p.late ≼ y
  pub soonest : (q : Pair) → Memᴰ q ps → q.late ≼ y → p.end ≤ q.end

within_at : (y : ℤ) (p : Pair) (ps : List Pair) (b : Bool) → le_z p.late y ≡ b →
    first_within y (p ∷ ps) ≡ cond b (some p) (first_within y ps)
unfolding first_within
within_at y p ps b e = ap (λ (t : Bool). cond t (some p) (first_within y ps)) e

-- A pair that keeps the bound, and one that is not the first within it.
above_not : (y : ℤ) (p q : Pair) → le_z q.late y ≡ false → p ≡ q → p.late ≼ y → ⊥
above_not y p q h c k = subst T (ap (λ (x : Pair). le_z x.late y) c ∙ h) (→le_z p.late y k)

module _ (y : ℤ) where
  pub first_of : (ps : List Pair) → Rising ps → (p : Pair) → first_within y ps ≡ some p → FirstOf y ps p
  first_of [] r p e = unfold first_within in absurd (none-ne-some p e)
  first_of (q ∷ qs) r p e = step (le_z q.late y) refl (first_of qs r.1 p)
    where
      step : (b : Bool) → le_z q.late y ≡ b → (first_within y qs ≡ some p → FirstOf y qs p) → FirstOf y (q ∷ qs) p
      step true h f =
          let z : q ≡ p = some-injective q p (sym (within_at y q qs true h) ∙ e) in
          subst (FirstOf y (q ∷ qs)) z (record {
            listed = Memᴰ.head refl;
            kept = le_z→ q.late y (is_true _ h);
            soonest = λ s m k. no_sooner s (Memᴰ.cases_cons m);
          })
        where
          no_sooner : (s : Pair) → (s ≡ q) ⊎ Memᴰ s qs → q.end ≤ s.end
          no_sooner s (inl c) = omega (arith, ap {B = ℕ} (λ (x : Pair). x.end) c)
          no_sooner s (inr m) = omega (arith, (r.0 s m).0)
      step false h f =
          let g = f (sym (within_at y q qs false h) ∙ e) in
          record { listed = Memᴰ.tail g.listed; kept = g.kept; soonest = λ s m k. cases s k g (Memᴰ.cases_cons m) }
        where
          cases : (s : Pair) → s.late ≼ y → FirstOf y qs p → (s ≡ q) ⊎ Memᴰ s qs → p.end ≤ s.end
          cases s k g (inl c) = absurd (above_not y s q h c k)
          cases s k g (inr m) = g.soonest s m k

  pub first_some : (ps : List Pair) (q : Pair) → Memᴰ q ps → q.late ≼ y → (p : Pair) × (first_within y ps ≡ some p)
  first_some [] q m k = absurd (Memᴰ.not-nil m)
  first_some (s ∷ ps) q m k = step (le_z s.late y) refl (Memᴰ.cases_cons m) (λ n. first_some ps q n k)
    where
      step : (b : Bool) → le_z s.late y ≡ b → (q ≡ s) ⊎ Memᴰ q ps →
          (Memᴰ q ps → (p : Pair) × (first_within y ps ≡ some p)) → (p : Pair) × (first_within y (s ∷ ps) ≡ some p)
      step true h c f = (s, within_at y s ps true h)
      step false h (inl c) f = absurd (above_not y q s h c k)
      step false h (inr n) f = let u = f n in (u.0, within_at y s ps false h ∙ u.1)

  first_smaller : (z : ℤ) → z ≼ y → (ps : List Pair) (p : Pair) → first_within y ps ≡ some p → p.late ≼ z → first_within z ps ≡ some p
  first_smaller z l [] p e k = unfold first_within in absurd (none-ne-some p e)
  first_smaller z l (q ∷ qs) p e k = step (le_z q.late y) (le_z q.late z) refl refl (first_smaller z l qs p)
    where
      step : (b c : Bool) → le_z q.late y ≡ b → le_z q.late z ≡ c →
          (first_within y qs ≡ some p → p.late ≼ z → first_within z qs ≡ some p) → first_within z (q ∷ qs) ≡ some p
      step true true h g f = within_at z q qs true g ∙ (sym (within_at y q qs true h) ∙ e)
      step true false h g f =
          let c : q ≡ p = some-injective q p (sym (within_at y q qs true h) ∙ e) in
          absurd (above_not z p q g (sym c) k)
      step false true h g f = absurd (above_not y q q h refl (omega (arith, le_z→ q.late z (is_true _ g))))
      step false false h g f = within_at z q qs false g ∙ f (sym (within_at y q qs false h) ∙ e) k

-- The first plans of several lists.
abbrev pub AllRise : List (List Pair) → Type 0
AllRise [] = Unit {0}
AllRise (l ∷ ls) = Rising l × AllRise ls

both_some : (a : Option Pair) (b : Option (List Pair)) (ps : List Pair) → in_front a b ≡ some ps →
    (p : Pair) × (rest : List Pair) × (a ≡ some p) × (b ≡ some rest) × (p ∷ rest ≡ ps)
both_some none b ps e = absurd (none-ne-some ps e)
both_some (some p) none ps e = absurd (none-ne-some ps e)
both_some (some p) (some rest) ps e = (p, rest, refl, refl, some-injective (p ∷ rest) ps e)

pub firsts : (y : ℤ) (l : List Pair) (ls : List (List Pair)) (ps : List Pair) → first_plans y (l ∷ ls) ≡ some ps →
    (p : Pair) × (rest : List Pair) × (first_within y l ≡ some p) × (first_plans y ls ≡ some rest) × (p ∷ rest ≡ ps)
unfolding first_plans
firsts y l ls ps e = both_some (first_within y l) (first_plans y ls) ps e

pub firsts_cons : (y : ℤ) (l : List Pair) (ls : List (List Pair)) {p : Pair} {ps : List Pair} → first_within y l ≡ some p →
    first_plans y ls ≡ some ps → first_plans y (l ∷ ls) ≡ some (p ∷ ps)
unfolding first_plans
firsts_cons y l ls e f = rw (e, f)

-- They are late by at most y, and their latenesses are listed.
pub record FirstsOf (y : ℤ) (lists : List (List Pair)) (ps : List Pair) : Type 0 where
  pub kept : T (at_most y (lates ps))
  pub listed : (z : ℤ) → Memᴰ z (lates ps) → Memᴰ z (listed_lates lists)
  pub many : length ps ≡ length lists

firsts_of_cons : (y : ℤ) (l : List Pair) (ls : List (List Pair)) (p : Pair) (ps : List Pair) → FirstOf y l p → FirstsOf y ls ps →
    FirstsOf y (l ∷ ls) (p ∷ ps)
unfolding at_most listed_lates
firsts_of_cons y l ls p ps f r = record {
  kept = both (le_z p.late y) (at_most y (lates ps)) (→le_z p.late y f.kept) r.kept;
  listed = λ z m. here z (Memᴰ.cases_cons m);
  many = omega (arith, r.many);
}
  where
    here : (z : ℤ) → (z ≡ p.late) ⊎ Memᴰ z (lates ps) → Memᴰ z (lates l ++ listed_lates ls)
    here z (inl h) =
        Memᴰ.append_left (listed_lates ls)
        (subst (λ (x : ℤ). Memᴰ x (lates l)) (sym h) (Memᴰ.map (λ (q : Pair). q.late) f.listed))
    here z (inr n) = Memᴰ.append_right (lates l) (r.listed z n)

pub firsts_of : (y : ℤ) (lists : List (List Pair)) → AllRise lists → (ps : List Pair) → first_plans y lists ≡ some ps → FirstsOf y lists ps
firsts_of y [] g ps e = unfold first_plans at_most in
    subst (FirstsOf y []) (some-injective [] ps e) (record { kept = tt; listed = λ z m. absurd (Memᴰ.not-nil m); many = refl })
firsts_of y (l ∷ ls) g ps e =
    let u = firsts y l ls ps e in
    subst (FirstsOf y (l ∷ ls)) u.4
    (firsts_of_cons y l ls u.0 u.1 (first_of y l g.0 u.0 u.2) (firsts_of y ls g.1 u.1 u.3))

-- They are the first for a smaller bound too that they keep.
pub plans_smaller : (y z : ℤ) → z ≼ y → (lists : List (List Pair)) (ps : List Pair) → first_plans y lists ≡ some ps →
    T (at_most z (lates ps)) → first_plans z lists ≡ some ps
unfolding at_most
plans_smaller y z l [] ps e k = unfold first_plans in e
plans_smaller y z l (x ∷ xs) ps e k =
    let u = firsts y x xs ps e in
    let t = parts (le_z u.0.late z) (at_most z (lates u.1)) (subst (λ (x : List Pair). T (at_most z (lates x))) (sym u.4) k) in
    firsts_cons z x xs (first_smaller y z l x u.0 u.2 (le_z→ u.0.late z t.0)) (plans_smaller y z l xs u.1 u.3 t.1) ∙
    ap some u.4

-- A pair in front that ends no later adds no more overtime.
pub overtimes_less : (p q : Pair) (ps qs : List Pair) → p.end ≤ q.end → ((cs : List ℕ) → overtimes cs ps ≤ overtimes cs qs) →
    (cs : List ℕ) → overtimes cs (p ∷ ps) ≤ overtimes cs (q ∷ qs)
unfolding overtimes
overtimes_less p q ps qs s v [] = omega arith
overtimes_less p q ps qs s v (c ∷ cs) = omega (arith, v cs)

-- For a larger bound there are first plans too, with no more overtime, whatever the closing minutes.
pub plans_larger : (y z : ℤ) → y ≼ z → (lists : List (List Pair)) → AllRise lists → (ps : List Pair) → first_plans y lists ≡ some ps →
    (qs : List Pair) × (first_plans z lists ≡ some qs) × ((closings : List ℕ) → overtimes closings qs ≤ overtimes closings ps)
plans_larger y z h [] r ps e = unfold first_plans in (ps, e, λ cs. omega arith)
plans_larger y z h (l ∷ ls) r ps e =
    let u = firsts y l ls ps e in
    let f = first_of y l r.0 u.0 u.2 in
    let k : u.0.late ≼ z = omega (arith, f.kept) in
    let g = first_some z l u.0 f.listed k in
    let s = (first_of z l r.0 g.0 g.1).soonest u.0 f.listed k in
    let v = plans_larger y z h ls r.1 u.1 u.3 in (
      g.0 ∷ v.0,
      firsts_cons z l ls g.1 v.1,
      λ cs. subst (λ (x : List Pair). overtimes cs (g.0 ∷ v.0) ≤ overtimes cs x) u.4
          (overtimes_less g.0 u.0 v.0 u.1 s v.2 cs),
    )
