-- The k-th plan on a list, within the list and past it.
-- Assumes nothing.
use Prim.Native.Nat.{ℕ, zero, suc, ◌-◌, ◌≤◌, ◌<◌}
use native.Mathlib.Omega.{arith}
use mathlib.Core.Path.{◌≡◌, refl, ap, ◌∙◌}
use mathlib.Core.List.{List, [], ◌∷◌}
use mathlib.Core.Option.{none, some}
use lib.ListN.{length, get_or, get_elem?}
use Rattle.schedule.specs.Desk.{Pair}
use Rattle.outcomes.specs.Planning.{nth}

elem_in : (ps : List Pair) (i : ℕ) (q : Pair) → i < length ps → get_elem? ps i ≡ some (get_or ps i q)
elem_in [] i q h = let z : ⊥ = omega arith in absurd z
elem_in (p ∷ ps) zero q h = refl
elem_in (p ∷ ps) (suc i) q h = elem_in ps i q (omega arith)

elem_out : (ps : List Pair) (i : ℕ) → length ps ≤ i → get_elem? ps i ≡ none
elem_out [] i h = refl
elem_out (p ∷ ps) zero h = let z : ⊥ = omega arith in absurd z
elem_out (p ∷ ps) (suc i) h = elem_out ps i (omega arith)

pub nth_in : (ps : List Pair) (k : ℕ) (q : Pair) → 1 ≤ k → k ≤ length ps → nth ps k ≡ some (get_or ps (k - 1) q)
unfolding nth
nth_in ps zero q h l = let z : ⊥ = omega arith in absurd z
nth_in ps (suc k) q h l = let e : k ≡ suc k - 1 = omega arith in elem_in ps k q (omega arith) ∙ ap (λ (i : ℕ). some (get_or ps i q)) e

pub nth_zero : (ps : List Pair) → nth ps 0 ≡ none
unfolding nth
nth_zero ps = refl

pub nth_out : (ps : List Pair) (k : ℕ) → length ps < k → nth ps k ≡ none
unfolding nth
nth_out ps zero h = refl
nth_out ps (suc k) h = elem_out ps k (omega arith)
