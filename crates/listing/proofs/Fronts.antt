-- The plans that a list holds: how many, which one stands at a place, and one plan more.
-- Assumes nothing.
use Prim.Native.Nat.{ℕ, zero, suc, ◌≤◌, ◌<◌}
use native.Mathlib.Omega.{arith}
use mathlib.Core.Path.{◌≡◌, refl, sym, ap, ap₂, ◌∙◌}
use mathlib.Core.List.{List, [], ◌∷◌, ◌++◌, map, Memᴰ}
use lib.ListN.{length, take, get_or}
use lib.Seq.{take-suc, length-take-le, get_or-take}
use Rattle.schedule.specs.Limits.{most_rows}
use Rattle.schedule.specs.Desk.{Pair}
use Rattle.schedule.specs.Offset.{raised, lowered}
use Rattle.listing.specs.declared.Front.{Front}
use Rattle.listing.specs.Fronts.{pair_at, pairs_of, held, Sized, HoldsPlans}

pairs_length : (es ls : List ℕ) → length es ≡ length ls → length (pairs_of es ls) ≡ length es
unfolding pairs_of
pairs_length [] [] h = refl
pairs_length [] (l ∷ ls) h = refl
pairs_length (e ∷ es) [] h = let z : ⊥ = omega arith in absurd z
pairs_length (e ∷ es) (l ∷ ls) h = ap suc (pairs_length es ls (omega arith))

pairs_more : (es ls : List ℕ) (e l : ℕ) → length es ≡ length ls →
    pairs_of (es ++ (e ∷ [])) (ls ++ (l ∷ [])) ≡ pairs_of es ls ++ (pair_at e l ∷ [])
unfolding pairs_of
pairs_more [] [] e l h = refl
pairs_more [] (m ∷ ls) e l h = let z : ⊥ = omega arith in absurd z
pairs_more (d ∷ es) [] e l h = let z : ⊥ = omega arith in absurd z
pairs_more (d ∷ es) (m ∷ ls) e l h = ap {B = List Pair} (λ r. pair_at d m ∷ r) (pairs_more es ls e l (omega arith))

pairs_at_lem : (es ls : List ℕ) (i : ℕ) (q : Pair) → length es ≡ length ls → i < length es →
    get_or (pairs_of es ls) i q ≡ pair_at (get_or es i 0) (get_or ls i 0)
unfolding pairs_of
pairs_at_lem [] ls i q h k = let z : ⊥ = omega arith in absurd z
pairs_at_lem (e ∷ es) [] i q h k = let z : ⊥ = omega arith in absurd z
pairs_at_lem (e ∷ es) (l ∷ ls) zero q h k = refl
pairs_at_lem (e ∷ es) (l ∷ ls) (suc i) q h k = pairs_at_lem es ls i q (omega arith) (omega arith)

-- A list of pairs comes back from its ends and its latenesses, raised.
pub pairs_back : (ps : List Pair) → ((p : Pair) → Memᴰ p ps → lowered (raised p.late) ≡ p.late) →
    pairs_of (map (λ (p : Pair). p.end) ps) (map (λ (p : Pair). raised p.late) ps) ≡ ps
unfolding pairs_of
pairs_back [] h = refl
pairs_back (p ∷ ps) h = λ i. record { end = p.end; late = h p (Memᴰ.head refl) i } ∷ pairs_back ps (λ q m. h q (Memᴰ.tail m)) i

-- The first k of two columns.
module _ (ends lates : List ℕ) (k : ℕ) (h : k ≤ length ends) (g : k ≤ length lates) where
  even : length (take k ends) ≡ length (take k lates)
  even = length-take-le k ends h ∙ sym (length-take-le k lates g)

  pub first_length : length (pairs_of (take k ends) (take k lates)) ≡ k
  first_length = pairs_length (take k ends) (take k lates) even ∙ length-take-le k ends h

  pub first_at_lem : (i : ℕ) (q : Pair) → i < k → get_or (pairs_of (take k ends) (take k lates)) i q ≡ pair_at (get_or ends i 0) (get_or lates i 0)
  first_at_lem i q l =
      pairs_at_lem (take k ends) (take k lates) i q even (omega (arith, length-take-le k ends h)) ∙
      ap₂ pair_at (get_or-take k ends i 0 l) (get_or-take k lates i 0 l)

pub first_more : (ends lates : List ℕ) (k : ℕ) → k < length ends → k < length lates →
    pairs_of (take (suc k) ends) (take (suc k) lates) ≡ pairs_of (take k ends) (take k lates) ++
    (pair_at (get_or ends k 0) (get_or lates k 0) ∷ [])
first_more ends lates k h g =
    ap₂ pairs_of (take-suc ends k 0 h) (take-suc lates k 0 g) ∙
    pairs_more (take k ends) (take k lates) (get_or ends k 0) (get_or lates k 0) (even ends lates k (omega arith) (omega arith))

module _ (f : Front) (s : Sized f) where
  pub held_at : (i : ℕ) (q : Pair) → i < f.count → get_or (held f) i q ≡ pair_at (get_or f.ends i 0) (get_or f.lates i 0)
  held_at = first_at_lem f.ends f.lates f.count (omega (arith, s.few, s.ends)) (omega (arith, s.few, s.lates))

-- The list of plans whose raised latenesses lower to them has room for them and holds them.
pub plans_sized : (ps : List Pair) (n : ℕ) (r : Front) → n ≤ most_rows → HoldsPlans ps n r → Sized r
plans_sized ps n r small h = record { few = omega (arith, h.few); ends = h.end_places; lates = h.late_places }

pub plans_held : (ps : List Pair) (n : ℕ) (r : Front) → HoldsPlans ps n r →
    ((p : Pair) → Memᴰ p ps → lowered (raised p.late) ≡ p.late) → held r ≡ ps
plans_held ps n r h lowers = (λ x. pairs_of (h.ends x) (h.lates x)) ∙ pairs_back ps lowers
