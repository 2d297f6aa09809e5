-- The first plan of a list that beats a pair, as a loop finds it.
-- Assumes nothing.
use Prim.Native.Nat.{ℕ, suc, ◌+◌, ◌≤◌, ◌<◌}
use native.Mathlib.Omega.{arith}
use native.Mathlib.Numerals.{add-one}
use mathlib.Core.Bool.{true, false, cond}
use mathlib.Core.Path.{◌≡◌, refl, sym, ap, ◌∙◌}
use mathlib.Core.List.{List, []}
use mathlib.Core.Option.{some}
use lib.ListN.{length, take, drop, get_or}
use lib.Seq.{drop-cons, drop-length}
use Rattle.schedule.specs.Desk.{Pair}
use Rattle.schedule.specs.Plans.{beats, first_beating}
use Rattle.listing.specs.Fronts.{pair_at, pairs_of}
use Rattle.results.specs.Results.{or_zero}
use Rattle.listing.proofs.Fronts.{first_length, first_at_lem}

-- The first plan that beats a pair.
no_pair : Pair
no_pair = pair_at 0 0

module _ (ends lates : List ℕ) (count : ℕ) (h : count ≤ length ends) (g : count ≤ length lates) (q : Pair) where
  abbrev all : List Pair
  all = pairs_of (take count ends) (take count lates)

  first_step : (i : ℕ) → i < count →
      first_beating (i + 1) (drop i all) q ≡
      cond (beats (pair_at (get_or ends i 0) (get_or lates i 0)) q) (some (i + 1)) (first_beating (i + 1 + 1) (drop (i + 1) all) q)
  unfolding first_beating
  first_step i k =
      rw (add-one (i + 1), add-one i) (ap (λ (ps : List Pair). first_beating (suc i) ps q)
      (drop-cons all i no_pair (omega (arith, first_length ends lates count h g))) ∙
      ap (λ (p : Pair). cond (beats p q) (some (suc i)) (first_beating (suc (suc i)) (drop (suc i) all) q))
      (first_at_lem ends lates count h g i no_pair k))

  pub first_here : (i : ℕ) → i < count → beats (pair_at (get_or ends i 0) (get_or lates i 0)) q ≡ true →
      first_beating 1 all q ≡ first_beating (i + 1) (drop i all) q → i + 1 ≡ or_zero (first_beating 1 all q)
  first_here i k b e = let r : first_beating (i + 1) (drop i all) q ≡ some (i + 1) = first_step i k ∙ rw b refl in sym (ap or_zero (e ∙ r))

  pub first_on : (i : ℕ) → i < count → beats (pair_at (get_or ends i 0) (get_or lates i 0)) q ≡ false →
      first_beating 1 all q ≡ first_beating (i + 1) (drop i all) q → first_beating 1 all q ≡ first_beating (i + 1 + 1) (drop (i + 1) all) q
  first_on i k b e = e ∙ (first_step i k ∙ rw b refl)

  pub first_no : (i : ℕ) → i ≡ count → first_beating 1 all q ≡ first_beating (i + 1) (drop i all) q →
      ◌≡◌ {A = ℕ} 0 (or_zero (first_beating 1 all q))
  unfolding first_beating
  first_no i k e =
      let d : drop i all ≡ [] = ap (λ (n : ℕ). drop n all) (k ∙ sym (first_length ends lates count h g)) ∙ drop-length all in
      sym (ap or_zero (e ∙ ap (λ (ps : List Pair). first_beating (i + 1) ps q) d))
