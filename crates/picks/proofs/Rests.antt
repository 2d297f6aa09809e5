-- Rows left over: what stands in a list without a row, and that it still has no row twice.
-- Assumes nothing.
use Prim.Native.Nat.{ℕ}
use mathlib.Core.Bool.{Bool, true, false, cond}
use mathlib.Core.Path.{◌≡◌, refl, sym, ◌∙◌, subst}
use mathlib.Core.List.Memᴰ
use mathlib.Core.List.{List, [], ◌∷◌, Memᴰ}
use mathlib.Core.Logic.{◌⊎◌, inl, inr}
use lib.Dec.{eqb}
use borrow.Author.Tests.{eqb-true, eqb-false}
use Rattle.schedule.specs.Rows.{without}
use Rattle.schedule.proofs.Orders.{mem_without}
use Rattle.picks.specs.Standing.{Distinct}

-- Every other row stays,
pub kept_without : (j i : ℕ) (is : List ℕ) → Memᴰ j is → (j ≡ i → ⊥) → Memᴰ j (without i is)
unfolding without
kept_without j i [] m n = m
kept_without j i (k ∷ ks) m n = go (eqb i k) refl (Memᴰ.cases_cons m) (λ o. kept_without j i ks o n)
  where
    go : (c : Bool) → eqb i k ≡ c → (j ≡ k) ⊎ Memᴰ j ks → (Memᴰ j ks → Memᴰ j (without i ks)) → Memᴰ j
        (cond c ks (k ∷ without i ks))
    go true e (inl x) f = absurd (n (x ∙ sym (eqb-true i k e)))
    go true e (inr o) f = o
    go false e (inl x) f = Memᴰ.head x
    go false e (inr o) f = Memᴰ.tail (f o)

-- and the row itself is gone where none stands twice.
gone_without : (i : ℕ) (is : List ℕ) → Distinct is → Memᴰ i (without i is) → ⊥
unfolding without
gone_without i [] a m = Memᴰ.not-nil m
gone_without i (k ∷ ks) a m = go (eqb i k) refl m (gone_without i ks a.1)
  where
    go : (c : Bool) → eqb i k ≡ c → Memᴰ i (cond c ks (k ∷ without i ks)) → (Memᴰ i (without i ks) → ⊥) → ⊥
    go true e m f = a.0 (subst (λ (x : ℕ). Memᴰ x ks) (eqb-true i k e) m)
    go false e m f = cases (Memᴰ.cases_cons m)
      where
        cases : (i ≡ k) ⊎ Memᴰ i (without i ks) → ⊥
        cases (inl x) = eqb-false i k e x
        cases (inr o) = f o

pub other_without : {j : ℕ} (i : ℕ) (is : List ℕ) → Distinct is → Memᴰ j (without i is) → j ≡ i → ⊥
other_without i is a m x = gone_without i is a (subst (λ (y : ℕ). Memᴰ y (without i is)) x m)

pub distinct_without : (i : ℕ) (is : List ℕ) → Distinct is → Distinct (without i is)
unfolding without
distinct_without i [] a = tt
distinct_without i (k ∷ ks) a = go (eqb i k) (distinct_without i ks a.1)
  where
    go : (c : Bool) → Distinct (without i ks) → Distinct (cond c ks (k ∷ without i ks))
    go true f = a.1
    go false f = (λ m. a.0 (mem_without i ks m), f)
