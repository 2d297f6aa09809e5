-- How a column with a number of each row is filled row by row.
-- Assumes nothing.
use Prim.Native.Nat.{ℕ, zero, suc, ◌+◌, ◌≤◌, ◌<◌}
use native.Mathlib.Omega.{arith}
use native.Mathlib.Decide.{ℕ_discrete, dec_lt}
use native.Mathlib.Numerals.{add-one}
use mathlib.Core.Path.{◌≡◌, refl, sym, ap, ◌∙◌, subst}
use mathlib.Core.List.{List, [], ◌∷◌}
use lib.ListN.{take, get_or, set, length-set, replicate, length-replicate}
use lib.Seq.{get_or-set_same, get_or-set_other, get_or-take}
use Rattle.schedule.specs.Limits.{most_rows, row_places}
use Rattle.schedule.specs.declared.Row.{Row}
use Rattle.schedule.specs.Rows.{no_row, row}
use Rattle.rows.specs.InColumns.{Column}

zeros : (n i : ℕ) → ◌≡◌ {A = ℕ} (get_or (replicate n 0) i 0) 0
zeros zero i = refl
zeros (suc n) zero = refl
zeros (suc n) (suc i) = zeros n i

nothing : (i : ℕ) → row [] i ≡ no_row
nothing zero = refl
nothing (suc i) = refl

past_take : (n : ℕ) (rows : List Row) (i : ℕ) → n ≤ i → get_or (take n rows) i no_row ≡ no_row
past_take zero rows i h = refl
past_take (suc n) [] i h = refl
past_take (suc n) (r ∷ rows) zero h = let z : ⊥ = omega arith in absurd z
past_take (suc n) (r ∷ rows) (suc i) h = past_take n rows i (omega arith)

-- Another number names the same row among the first n and among the first n + 1.
same_other : (rows : List Row) (n i : ℕ) → ¬ (i ≡ suc n) → row (take (suc n) rows) i ≡ row (take n rows) i
same_other rows n zero h = refl
same_other rows n (suc i) h = step (dec_lt i n)
  where
    step : Dec (i < n) → get_or (take (suc n) rows) i no_row ≡ get_or (take n rows) i no_row
    step (yes l) = get_or-take (suc n) rows i no_row (omega arith) ∙ sym (get_or-take n rows i no_row l)
    step (no l) = past_take (suc n) rows i (next_past (ℕ_discrete i n)) ∙ sym (past_take n rows i (omega arith))
      where
        next_past : Dec (i ≡ n) → suc n ≤ i
        next_past (yes e) = absurd (h (ap suc e))
        next_past (no e) = omega arith

module _ (f : Row → ℕ) where
  pub column_none : f no_row ≡ 0 → Column f (replicate row_places 0) []
  column_none e = (length-replicate {A = ℕ} row_places 0, λ i. zeros row_places i ∙ sym (ap f (nothing i) ∙ e))

  pub column_more : (column : List ℕ) (rows : List Row) (n : ℕ) (r : Row) → n < most_rows → r ≡ get_or rows n no_row →
      Column f column (take n rows) →
      Column f (set column (n + 1) (f r)) (take (n + 1) rows)
  column_more column rows n r h e a = (
    length-set column (n + 1) (f r) ∙ a.0,
    λ i. subst (λ (m : ℕ). get_or (set column m (f r)) i 0 ≡ f (row (take m rows) i)) (sym (add-one n)) (at i (ℕ_discrete i (suc n))),
  )
    where
      at : (i : ℕ) → Dec (i ≡ suc n) → get_or (set column (suc n) (f r)) i 0 ≡ f (row (take (suc n) rows) i)
      at i (yes g) =
          subst (λ (m : ℕ). get_or (set column (suc n) (f r)) m 0 ≡ f (row (take (suc n) rows) m)) (sym g)
          (get_or-set_same column (suc n) (f r) 0 (omega (arith, a.0)) ∙ ap f (e ∙ sym (get_or-take (suc n) rows n no_row (omega arith))))
      at i (no g) = get_or-set_other column (suc n) i (f r) 0 g ∙ (a.1 i ∙ ap f (sym (same_other rows n i g)))
