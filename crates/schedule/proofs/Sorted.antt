-- Sorted lists: each member stands in a relation to all after it.
-- Assumes nothing.
use Prim.Native.Nat.{ℕ, zero, suc, ◌≤◌, ◌<◌}
use native.Mathlib.Omega.{arith}
use mathlib.Core.Path.{◌≡◌, refl, sym, ◌∙◌, subst}
use mathlib.Core.List.Memᴰ
use mathlib.Core.List.{List, [], ◌∷◌, Memᴰ}
use mathlib.Core.Logic.{◌⊎◌, inl, inr}
use lib.ListN.{length, take}
use Rattle.schedule.specs.Columns.{at}

abbrev pub Sorted : {A : Type 0} → (A → A → Type 0) → List A → Type 0
Sorted R [] = Unit {0}
Sorted {A} R (a ∷ xs) = ((b : A) → Memᴰ b xs → R a b) × Sorted R xs

-- A relation that never holds both ways fixes a sorted list by its members: two with the same are equal.
module _ {A : Type 0} (R : A → A → Type 0) (one_way : (a b : A) → R a b → R b a → ⊥) where
  other : (a b : A) → R a b → ¬ (b ≡ a)
  other a b r e = let s : R a a = subst (R a) e r in one_way a a s s

  pub sorted_unique : (l m : List A) → Sorted R l → Sorted R m → ((a : A) → Memᴰ a l → Memᴰ a m) →
      ((a : A) → Memᴰ a m → Memᴰ a l) → l ≡ m
  sorted_unique [] [] h k f g = refl
  sorted_unique [] (b ∷ ys) h k f g = absurd (Memᴰ.not-nil (g b (Memᴰ.head refl)))
  sorted_unique (a ∷ xs) [] h k f g = absurd (Memᴰ.not-nil (f a (Memᴰ.head refl)))
  sorted_unique (a ∷ xs) (b ∷ ys) h k f g = λ i. e i ∷ sorted_unique xs ys h.1 k.1 down up i
    where
      first : (a ≡ b) ⊎ Memᴰ a ys → (b ≡ a) ⊎ Memᴰ b xs → a ≡ b
      first (inl s) t = s
      first (inr s) (inl t) = sym t
      first (inr s) (inr t) = absurd (one_way a b (h.0 b t) (k.0 a s))

      e : a ≡ b
      e = first (Memᴰ.cases_cons (f a (Memᴰ.head refl))) (Memᴰ.cases_cons (g b (Memᴰ.head refl)))

      down : (c : A) → Memᴰ c xs → Memᴰ c ys
      down c m = go (Memᴰ.cases_cons (f c (Memᴰ.tail m)))
        where
          go : (c ≡ b) ⊎ Memᴰ c ys → Memᴰ c ys
          go (inl d) = absurd (other a c (h.0 c m) (d ∙ sym e))
          go (inr n) = n

      up : (c : A) → Memᴰ c ys → Memᴰ c xs
      up c m = go (Memᴰ.cases_cons (g c (Memᴰ.tail m)))
        where
          go : (c ≡ a) ⊎ Memᴰ c xs → Memᴰ c xs
          go (inl d) = absurd (other b c (k.0 c m) (d ∙ e))
          go (inr n) = n

-- The first n places of a list: what stands there, and when they are sorted.
pub mem_place : (n : ℕ) (l : List ℕ) (x : ℕ) → Memᴰ x (take n l) → (k : ℕ) × (k < n) × (at l k ≡ x)
mem_place zero l x m = absurd (Memᴰ.not-nil m)
mem_place (suc n) [] x m = absurd (Memᴰ.not-nil m)
mem_place (suc n) (a ∷ l) x (Memᴰ.head e) = (0, omega arith, sym e)
mem_place (suc n) (a ∷ l) x (Memᴰ.tail m) = let r = mem_place n l x m in (suc r.0, omega (arith, r.1), r.2)

pub place_mem : (n : ℕ) (l : List ℕ) (k : ℕ) → k < n → n ≤ length l → Memᴰ (at l k) (take n l)
place_mem zero l k h g = let z : ⊥ = omega arith in absurd z
place_mem (suc n) [] k h g = let z : ⊥ = omega arith in absurd z
place_mem (suc n) (a ∷ l) zero h g = Memᴰ.head refl
place_mem (suc n) (a ∷ l) (suc k) h g = Memᴰ.tail (place_mem n l k (omega arith) (omega arith))

pub places_sorted : (R : ℕ → ℕ → Type 0) (n : ℕ) (l : List ℕ) → ((k m : ℕ) → k < m → m < n → R (at l k) (at l m)) → Sorted R (take n l)
places_sorted R zero l h = tt
places_sorted R (suc n) [] h = tt
places_sorted R (suc n) (a ∷ l) h = (
  λ b m. let r = mem_place n l b m in subst (R a) r.2 (h 0 (suc r.0) (omega arith) (omega (arith, r.1))),
  places_sorted R n l (λ k m g f. h (suc k) (suc m) (omega arith) (omega arith)),
)
