-- The words of a list, as a loop writes them: two for each plan, behind those that stand there.
-- Assumes nothing.
use Prim.Native.Nat.{ℕ, suc, ◌+◌, ◌*◌, ◌<◌}
use native.Mathlib.Omega.{arith}
use native.Mathlib.Nat.{not-suc-le-zero, le_of_suc-le-suc}
use native.Mathlib.Numerals.{add-one}
use mathlib.Core.Path.{◌≡◌, refl, ap, ◌∙◌}
use mathlib.Core.List.{List, [], ◌∷◌, ◌++◌}
use lib.ListN.{length, take, drop, get_or, set}
use Rattle.schedule.specs.Desk.{Pair}
use Rattle.schedule.specs.Offset.{lowered}
use Rattle.results.specs.Results.{written, complement, plan_words}
use Rattle.listing.specs.Fronts.{pair_at, pairs_of}
use Rattle.listing.proofs.Fronts.{first_length, first_more}

pub plan_length : (ps : List Pair) → length (plan_words ps) ≡ 2 * length ps
unfolding plan_words
plan_length [] = refl
plan_length (p ∷ ps) = omega (arith, plan_length ps)

plan_more : (ps : List Pair) (p : Pair) → plan_words (ps ++ (p ∷ [])) ≡ plan_words ps ++ (p.end ∷ complement p.late ∷ [])
unfolding plan_words
plan_more [] p = refl
plan_more (q ∷ ps) p = ap {B = List ℕ} (λ r. q.end ∷ complement q.late ∷ r) (plan_more ps p)

-- Two stores behind the words p of a buffer that was d.
pub put_two : (p d : List ℕ) (v w : ℕ) → suc (length p) < length d →
    set (set (p ++ drop (length p) d) (length p) v) (suc (length p)) w ≡ (p ++ (v ∷ w ∷ [])) ++ drop (length (p ++ (v ∷ w ∷ []))) d
put_two p [] v w h = absurd (not-suc-le-zero h)
put_two [] (x ∷ []) v w h = absurd (not-suc-le-zero (le_of_suc-le-suc h))
put_two [] (x ∷ y ∷ d) v w h = refl
put_two (a ∷ p) (x ∷ d) v w h = ap (λ (t : List ℕ). a ∷ t) (put_two p d v w (le_of_suc-le-suc h))

-- The words of the first k plans of a list held in two arrays.
abbrev pub words_to : List ℕ → List ℕ → ℕ → List ℕ
words_to ends lates k = plan_words (pairs_of (take k ends) (take k lates))

module _ (ends lates : List ℕ) (k : ℕ) (h : k < length ends) (g : k < length lates) where
  words_length : length (words_to ends lates k) ≡ 2 * k
  words_length = plan_length (pairs_of (take k ends) (take k lates)) ∙
      ap (λ (n : ℕ). 2 * n) (first_length ends lates k (omega arith) (omega arith))

  words_suc : words_to ends lates (suc k) ≡ words_to ends lates k ++ (get_or ends k 0 ∷ complement (lowered (get_or lates k 0)) ∷ [])
  words_suc = ap plan_words (first_more ends lates k h g) ∙
      plan_more (pairs_of (take k ends) (take k lates)) (pair_at (get_or ends k 0) (get_or lates k 0))

  pub words_more : (b : List ℕ) → 2 * k + 1 < length b → (w : ℕ) → w ≡ complement (lowered (get_or lates k 0)) →
      set (set (written (words_to ends lates k) b) (2 * k) (get_or ends k 0)) (2 * k + 1) w ≡ written (words_to ends lates (k + 1)) b
  unfolding written
  words_more b l w e =
      rw (add-one k, add-one (2 * k), words_suc, e, ← words_length)
      (put_two (words_to ends lates k) b (get_or ends k 0) (complement (lowered (get_or lates k 0))) (omega (arith, words_length)))
