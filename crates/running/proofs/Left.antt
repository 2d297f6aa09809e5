-- The rows left: a row is one of them exactly if its mark is 0, and a row that is marked is taken out of them.
-- Assumes nothing.
use Prim.Native.Nat.{ℕ, zero, suc, ◌+◌, ◌≤◌, ◌<◌}
use native.Mathlib.Omega.{arith}
use native.Mathlib.Decide.{dec_le, ℕ_discrete}
use mathlib.Core.Bool.{Bool, true, false, cond, or-false}
use mathlib.Core.Path.{◌≡◌, refl, sym, ap, ◌∙◌}
use mathlib.Core.List.{List, [], ◌∷◌, ◌++◌}
use lib.Dec.{eqb}
use borrow.Author.Tests.{eq-eqb, ne_eqb}
use Rattle.schedule.specs.Rows.{stands, without}
use Rattle.schedule.specs.Columns.{at}
use Rattle.schedule.proofs.Tests.{neither}
use Rattle.schedule.proofs.Stands.{stands_none, stands_behind}
use Rattle.running.specs.Words.{marks, left_to}

-- A number taken out of a list with one more behind: another number stays, and the number itself goes where it stands nowhere else.
without_behind : (i : ℕ) (xs : List ℕ) (j : ℕ) → ¬ (i ≡ j) → without i (xs ++ (j ∷ [])) ≡ without i xs ++ (j ∷ [])
unfolding without
without_behind i [] j n = rw (ne_eqb i j n)
without_behind i (x ∷ xs) j n = step (eqb i x) (without_behind i xs j n)
  where
    step : (b : Bool) → without i (xs ++ (j ∷ [])) ≡ without i xs ++ (j ∷ []) →
        cond b (xs ++ (j ∷ [])) (x ∷ without i (xs ++ (j ∷ []))) ≡ cond b xs (x ∷ without i xs) ++ (j ∷ [])
    step true f = refl
    step false f = ap (λ (ys : List ℕ). x ∷ ys) f

without_last : (i : ℕ) (xs : List ℕ) → stands i xs ≡ false → without i (xs ++ (i ∷ [])) ≡ without i xs
unfolding stands without
without_last i [] e = rw (eq-eqb i i refl)
without_last i (x ∷ xs) e =
    let n = neither (eqb i x) (stands i xs) e in
    rw n.0 (ap (λ (ys : List ℕ). x ∷ ys) (without_last i xs n.1))

module _ (ws : List ℕ) where
  -- The mark of a row is 0.
  abbrev is_left : ℕ → Bool
  is_left i = eqb (at ws (marks + i)) 0

  left_past : (n i : ℕ) → n < i → stands i (left_to ws n) ≡ false
  unfolding left_to
  left_past zero i h = stands_none i
  left_past (suc n) i h = step (is_left (suc n)) (left_past n i (omega arith))
    where
      step : (b : Bool) → stands i (left_to ws n) ≡ false → stands i (cond b (left_to ws n ++ (suc n ∷ [])) (left_to ws n)) ≡ false
      step true f = stands_behind i (left_to ws n) (suc n) ∙ rw (f, ne_eqb i (suc n) (λ e. omega arith))
      step false f = f

  pub left_stands : (n i : ℕ) → 1 ≤ i → i ≤ n → stands i (left_to ws n) ≡ is_left i
  unfolding left_to
  left_stands zero i h g = let z : ⊥ = omega arith in absurd z
  left_stands (suc n) i h g = step (dec_le i n) (is_left (suc n)) refl (left_stands n i h)
    where
      step : Dec (i ≤ n) → (b : Bool) → is_left (suc n) ≡ b → (i ≤ n → stands i (left_to ws n) ≡ is_left i) →
          stands i (cond b (left_to ws n ++ (suc n ∷ [])) (left_to ws n)) ≡ is_left i
      step (yes l) true e f =
          stands_behind i (left_to ws n) (suc n) ∙ rw (f l, ne_eqb i (suc n) (λ e. omega arith)) (or-false (is_left i))
      step (yes l) false e f = f l
      step (no l) true e f =
          let last : i ≡ suc n = omega arith in
          stands_behind i (left_to ws n) (suc n) ∙ rw (left_past n i (omega arith), eq-eqb i (suc n) last) (sym (ap is_left last ∙ e))
      step (no l) false e f =
          let last : i ≡ suc n = omega arith in
          left_past n i (omega arith) ∙ sym (ap is_left last ∙ e)

-- Words that differ from others in that row i is marked.
module _ (ws vs : List ℕ) (i : ℕ) (before : at ws (marks + i) ≡ 0) (after : at vs (marks + i) ≡ 1)
    (same : (k : ℕ) → ¬ (k ≡ i) → at vs (marks + k) ≡ at ws (marks + k)) where
  pub left_without : (n : ℕ) → left_to vs n ≡ without i (left_to ws n)
  unfolding left_to without
  left_without zero = refl
  left_without (suc n) = step (ℕ_discrete i (suc n)) (is_left ws (suc n)) refl (left_without n)
    where
      step : Dec (i ≡ suc n) → (b : Bool) → is_left ws (suc n) ≡ b → left_to vs n ≡ without i (left_to ws n) →
          left_to vs (suc n) ≡ without i (cond b (left_to ws n ++ (suc n ∷ [])) (left_to ws n))
      step (yes e) b t f =
          let marked : at vs (marks + suc n) ≡ 1 = rw (← e) after in
          let unmarked : b ≡ true = sym t ∙ rw (← e) (eq-eqb _ 0 before) in
          rw (marked, unmarked, ← e) (f ∙ sym (without_last i (left_to ws n) (left_past ws n i (omega arith))))
      step (no e) true t f =
          rw (same (suc n) (λ x. e (sym x)), t, f) (sym (without_behind i (left_to ws n) (suc n) e))
      step (no e) false t f = rw (same (suc n) (λ x. e (sym x)), t) f

-- Words with the same marks have the same rows left.
pub left_same : (ws vs : List ℕ) → ((k : ℕ) → at vs (marks + k) ≡ at ws (marks + k)) → (n : ℕ) → left_to vs n ≡ left_to ws n
unfolding left_to
left_same ws vs same zero = refl
left_same ws vs same (suc n) = rw (same (suc n), left_same ws vs same n)
