-- The first place of a number within a bound, as a loop finds it.
-- Assumes nothing.
use Prim.Native.Nat.{ℕ, zero, suc, ◌+◌, ◌≤◌, ◌<◌}
use native.Mathlib.Omega.{arith}
use native.Mathlib.Decide.{ℕ_discrete}
use mathlib.Core.Bool.{Bool, true, false, cond}
use mathlib.Core.Path.{◌≡◌, refl, ap, subst}
use mathlib.Core.List.{List, [], ◌∷◌}
use lib.Dec.{leb}
use lib.ListN.{length, take}
use lib.Seq.{length-take-le, get_or-take}
use borrow.Author.Tests.{leb-true, leb-false}
use Rattle.schedule.specs.Columns.{at}
use Rattle.choice.specs.Lists.{place_within}

pub place_most : (b : ℕ) (ls : List ℕ) → place_within b ls ≤ length ls
unfolding place_within
place_most b [] = omega arith
place_most b (l ∷ ls) = step (leb l b) (place_most b ls)
  where
    step : (t : Bool) → place_within b ls ≤ length ls → cond t 0 (suc (place_within b ls)) ≤ suc (length ls)
    step true h = omega arith
    step false h = omega arith

above : (b : ℕ) (ls : List ℕ) (k : ℕ) → k < place_within b ls → b < at ls k
unfolding place_within
above b [] k h = let z : ⊥ = omega arith in absurd z
above b (l ∷ ls) k h = step (leb l b) refl h k (λ j. above b ls j)
  where
    step : (t : Bool) → leb l b ≡ t → k < cond t 0 (suc (place_within b ls)) → (i : ℕ) → ((j : ℕ) → j < place_within b ls → b < at ls j) →
        b < at (l ∷ ls) k
    step true e h i f = let z : ⊥ = omega arith in absurd z
    step false e h i f = on k h
      where
        on : (k : ℕ) → k < suc (place_within b ls) → b < at (l ∷ ls) k
        on zero h = leb-false l b e
        on (suc j) h = f j (omega arith)

here : (b : ℕ) (ls : List ℕ) → place_within b ls < length ls → at ls (place_within b ls) ≤ b
unfolding place_within
here b [] h = let z : ⊥ = omega arith in absurd z
here b (l ∷ ls) h = step (leb l b) refl h (here b ls)
  where
    step : (t : Bool) → leb l b ≡ t → cond t 0 (suc (place_within b ls)) < suc (length ls) →
        (place_within b ls < length ls → at ls (place_within b ls) ≤ b) → at (l ∷ ls) (cond t 0 (suc (place_within b ls))) ≤ b
    step true e h f = leb-true l b e
    step false e h f = f (omega arith)

-- A smaller bound has its place no sooner.
pub place_smaller : (b c : ℕ) (ls : List ℕ) → c ≤ b → place_within b ls ≤ place_within c ls
unfolding place_within
place_smaller b c [] h = omega arith
place_smaller b c (l ∷ ls) h = step (leb l b) (leb l c) refl refl (place_smaller b c ls h)
  where
    step : (s t : Bool) → leb l b ≡ s → leb l c ≡ t → place_within b ls ≤ place_within c ls →
        cond s 0 (suc (place_within b ls)) ≤ cond t 0 (suc (place_within c ls))
    step true t e f g = omega arith
    step false true e f g = let z : ⊥ = omega (arith, leb-false l b e, leb-true l c f) in absurd z
    step false false e f g = omega arith

-- Of the first numbers of a column.
module _ (b count : ℕ) (ls : List ℕ) (few : count ≤ length ls) where
  abbrev place : ℕ
  place = place_within b (take count ls)

  all : length (take count ls) ≡ count
  all = length-take-le count ls few

  pub place_low : place ≤ count
  place_low = omega (arith, place_most b (take count ls), all)

  pub place_above : (k : ℕ) → k < place → b < at ls k
  place_above k h = subst (λ (n : ℕ). b < n) (get_or-take count ls k 0 (omega (arith, place_low))) (above b (take count ls) k h)

  pub place_here : place < count → at ls place ≤ b
  place_here h = subst (λ (n : ℕ). n ≤ b) (get_or-take count ls place 0 h) (here b (take count ls) (omega (arith, all)))

  -- From a place that is not past it: found here, or not before the next.
  pub found : (k : ℕ) → k ≤ place → k < count → at ls k ≤ b → k ≡ place
  found k l h w = step (ℕ_discrete k place)
    where
      step : Dec (k ≡ place) → k ≡ place
      step (yes e) = e
      step (no n) = let z : ⊥ = omega (arith, place_above k (omega arith)) in absurd z

  pub next : (k : ℕ) → k ≤ place → k < count → b < at ls k → k + 1 ≤ place
  next k l h w = step (ℕ_discrete k place)
    where
      step : Dec (k ≡ place) → k + 1 ≤ place
      step (yes e) =
          let y = place_here (omega arith) in
          let z : ⊥ = omega (arith, y, ap {B = ℕ} (at ls) e) in
          absurd z
      step (no n) = omega arith
