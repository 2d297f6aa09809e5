-- The numbers of all rows: how many there are, which, that each stands once, and the last.
-- Assumes nothing.
use Prim.Native.Nat.{ℕ, zero, suc, ◌+◌, ◌≤◌, ◌<◌}
use native.Mathlib.Omega.{arith}
use native.Mathlib.Decide.{ℕ_discrete}
use mathlib.Core.Bool.{Bool, true, false}
use mathlib.Core.Path.{◌≡◌, refl, ap, ◌∙◌}
use mathlib.Core.List.Memᴰ
use mathlib.Core.List.{List, [], ◌∷◌, ◌++◌, Memᴰ}
use mathlib.Core.Logic.{◌⊎◌, inl, inr}
use lib.Dec.{T, eqb, eqb→eq}
use lib.ListN.{length}
use Rattle.schedule.specs.Rows.{count_from}
use Rattle.schedule.proofs.Orders.{one, count}

pub length_count : (i n : ℕ) → length (count_from i n) ≡ n
unfolding count_from
length_count i zero = refl
length_count i (suc n) = ap suc (length_count (suc i) n)

pub count_range : (k n : ℕ) {i : ℕ} → Memᴰ i (count_from k n) → (k ≤ i) × (i < k + n)
unfolding count_from
count_range k zero m = absurd (Memᴰ.not-nil m)
count_range k (suc n) {i} m = step (Memᴰ.cases_cons m) (λ m. count_range (suc k) n m)
  where
    step : (i ≡ k) ⊎ Memᴰ i (count_from (suc k) n) → (Memᴰ i (count_from (suc k) n) → (suc k ≤ i) × (i < suc k + n)) → (k ≤ i) ×
        (i < k + suc n)
    step (inl e) f = omega arith
    step (inr m) f = omega (arith, f m)

count_none : (k i n : ℕ) → k < i → count k (count_from i n) ≡ 0
unfolding count count_from
count_none k i zero h = refl
count_none k i (suc n) h = step (eqb k i) (eqb→eq k i) (count_none k (suc i) n (omega arith))
  where
    step : (b : Bool) → (T b → k ≡ i) → count k (count_from (suc i) n) ≡ 0 → one b + count k (count_from (suc i) n) ≡ 0
    step true e f = let z : ⊥ = omega (arith, e tt) in absurd z
    step false e f = omega arith

pub count_once : (k i n : ℕ) → count k (count_from i n) ≤ 1
unfolding count count_from
count_once k i zero = omega arith
count_once k i (suc n) = step (eqb k i) (eqb→eq k i) (count_once k (suc i) n) (λ l. count_none k (suc i) n l)
  where
    step : (b : Bool) → (T b → k ≡ i) → count k (count_from (suc i) n) ≤ 1 → (k < suc i → count k (count_from (suc i) n) ≡ 0) →
        one b + count k (count_from (suc i) n) ≤ 1
    step true e f g = let h : k ≡ i = e tt in omega (arith, g (omega arith))
    step false e f g = omega arith

pub from_mem : (k i n : ℕ) → i ≤ k → k < i + n → Memᴰ k (count_from i n)
unfolding count_from
from_mem k i zero h l = let z : ⊥ = omega arith in absurd z
from_mem k i (suc n) h l = step (ℕ_discrete k i) (λ g. from_mem k (suc i) n g (omega arith))
  where
    step : Dec (k ≡ i) → (suc i ≤ k → Memᴰ k (count_from (suc i) n)) → Memᴰ k (i ∷ count_from (suc i) n)
    step (yes e) f = Memᴰ.head e
    step (no e) f = Memᴰ.tail (f (omega arith))

pub count_last : (k n : ℕ) → count_from k (suc n) ≡ count_from k n ++ ((k + n) ∷ [])
unfolding count_from
count_last k zero = let e : k ≡ k + 0 = omega arith in ap {B = List ℕ} (λ (i : ℕ). i ∷ []) e
count_last k (suc n) =
    let e : suc k + n ≡ k + suc n = omega arith in
    ap (λ (l : List ℕ). k ∷ l) (count_last (suc k) n ∙ ap (λ (i : ℕ). count_from (suc k) n ++ (i ∷ [])) e)
