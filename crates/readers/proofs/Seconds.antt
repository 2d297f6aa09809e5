-- The column of second numbers, row by row; and what it tells, beside the dues, of rows that have the jobs.
-- Assumes nothing.
use Prim.Native.Nat.{ℕ, ◌-◌, ◌≤◌, ◌<◌}
use native.Mathlib.Omega.{arith}
use native.Mathlib.Decide.{dec_le}
use mathlib.Core.Path.{◌≡◌, ap, subst, ◌∙◌}
use mathlib.Core.List.{List}
use lib.ListN.{length, set, get_or, replicate, length-set, length-replicate}
use lib.Seq.{get_or-set_same, get_or-set_other}
use Rattle.theory.specs.Jobs.{Job}
use Rattle.schedule.specs.Limits.{most_rows, row_places, latest_minute, longest_time, latest_due}
use Rattle.schedule.specs.declared.Row.{Row}
use Rattle.schedule.specs.declared.Profile.{Profile}
use Rattle.schedule.specs.Rows.{row, job}
use Rattle.schedule.specs.Columns.{columns}
use Rattle.pairs.specs.Columns.{Columned}
use Rattle.rows.specs.InColumns.{Within}
use Rattle.readers.specs.Rules.{clash_by}
use Rattle.readers.specs.Seconds.{second_by}
use Rattle.readers.proofs.Rules.{clash_by_lem}

-- The column holds the second numbers of the rows 1 to n.
pub record Held (profile : Profile) (jobs : ℕ → Job) (n : ℕ) (seconds : List ℕ) : Type 0 where
  pub places : length seconds ≡ row_places
  pub second_at : (j : ℕ) → 1 ≤ j → j ≤ n → get_or seconds j 0 ≡ second_by profile (jobs j)

module _ (profile : Profile) (jobs : ℕ → Job) where
  pub held_none : Held profile jobs 0 (replicate row_places 0)
  held_none = record { places = length-replicate {A = ℕ} row_places 0; second_at = λ j l m. let x : ⊥ = omega arith in absurd x }

  pub held_at : (i : ℕ) (seconds : List ℕ) → 1 ≤ i → i ≤ most_rows → Held profile jobs (i - 1) seconds →
      Held profile jobs i (set seconds i (second_by profile (jobs i)))
  held_at i seconds some room h = record { places = simp length-set h.places; second_at = λ j l m. at j l m (dec_le i j) }
    where
      at : (j : ℕ) → 1 ≤ j → j ≤ i → Dec (i ≤ j) → get_or (set seconds i (second_by profile (jobs i))) j 0 ≡ second_by profile (jobs j)
      at j l m (yes g) =
          let same : i ≡ j = omega arith in
          let inside : i < length seconds = omega (arith, h.places) in
          rw (← same) (get_or-set_same seconds i (second_by profile (jobs i)) 0 inside)
      at j l m (no g) = get_or-set_other seconds i j (second_by profile (jobs i)) 0 (λ e. omega arith)
          ∙ h.second_at j l (omega arith)

-- Dues and second numbers tell which rows clash.
module _ (profile : Profile) (releases minutes dues : List ℕ)
    (limited : (i : ℕ) → Within latest_minute longest_time latest_due (columns releases minutes dues i)) where
  abbrev told : ℕ → Job
  told = columns releases minutes dues

  pub held_columned : (count : ℕ) (seconds : List ℕ) → Held profile told count seconds → (rows : List Row) → length rows ≡ count →
      ((i : ℕ) → 1 ≤ i → i ≤ count → told i ≡ job rows i) → Columned (clash_by profile) rows dues seconds
  held_columned count seconds h rows n same i j k l p q =
      let a = same i k (omega arith) in
      let b = same j p (omega arith) in
      rw (
        h.second_at i k (omega arith) ∙ ap (second_by profile) a,
        h.second_at j p (omega arith) ∙ ap (second_by profile) b,
        ap (λ (z : Job). z.due) a,
        ap (λ (z : Job). z.due) b,
      )
      (clash_by_lem profile (row rows i) (row rows j) (subst (Within latest_minute longest_time latest_due) a (limited i))
      (subst (Within latest_minute longest_time latest_due) b (limited j)))
