-- Arrival: which of two rows comes before the other.
-- Assumes nothing.
use Prim.Native.Nat.{ℕ, ◌≤◌, ◌<◌}
use native.Mathlib.Omega.{arith}
use native.Mathlib.Decide.{dec_le}
use mathlib.Core.Bool.{Bool, true, false, not}
use mathlib.Core.Path.{◌≡◌, refl, sym, ap}
use lib.Dec.{T, ltb→lt, nltb→le}
use Rattle.theory.specs.Jobs.{Job}
use Rattle.schedule.specs.Arrival.{comes_before, ArrivesFirst, by_release, by_due, by_row}
use Rattle.schedule.proofs.Tests.{is_true, is_false}
use Rattle.schedule.proofs.PickLaws.{ahead_says}

module _ (job : ℕ → Job) where
  -- Row i comes before row j, or is j.
  pub record Comes (i j : ℕ) : Type 0 where
    pub by_release : (job i).release ≤ (job j).release
    pub by_due : (job j).release ≤ (job i).release → (job i).due ≤ (job j).due
    pub by_row : (job j).release ≤ (job i).release → (job j).due ≤ (job i).due → i ≤ j

  module _ {i j : ℕ} where
    release_comes : (job i).release < (job j).release → Comes i j
    release_comes l = record { by_release = omega arith; by_due = λ h. omega arith; by_row = λ h g. omega arith }

    due_comes : (job i).release ≡ (job j).release → (job i).due < (job j).due → Comes i j
    due_comes r l = record { by_release = omega arith; by_due = λ h. omega arith; by_row = λ h g. omega arith }

    row_comes : (job i).release ≡ (job j).release → (job i).due ≡ (job j).due → i ≤ j → Comes i j
    row_comes r d l = record { by_release = omega arith; by_due = λ h. omega arith; by_row = λ h g. l }

  pub comes_first : {i j : ℕ} → Comes i j → ArrivesFirst job i j
  comes_first {i} {j} c = step (dec_le (job j).release (job i).release) (dec_le (job j).due (job i).due)
    where
      step : Dec ((job j).release ≤ (job i).release) → Dec ((job j).due ≤ (job i).due) → ArrivesFirst job i j
      step (no r) d = by_release (omega arith)
      step (yes r) (no d) = by_due (omega (arith, c.by_release)) (omega arith)
      step (yes r) (yes d) = by_row (omega (arith, c.by_release)) (omega (arith, c.by_due r)) (c.by_row r d)

  pub comes_trans : {i j k : ℕ} → Comes i j → Comes j k → Comes i k
  comes_trans {i} {j} {k} a b = record {
    by_release = omega (arith, a.by_release, b.by_release);
    by_due = λ h. omega (arith, dues h);
    by_row = λ h g. omega (
      arith,
      a.by_row (omega (arith, b.by_release)) (omega (arith, dues h)),
      b.by_row (omega (arith, a.by_release)) (omega (arith, dues h)),
    );
  }
    where
      dues : (job k).release ≤ (job i).release → ((job i).due ≤ (job j).due) × ((job j).due ≤ (job k).due)
      dues h = (a.by_due (omega (arith, b.by_release)), b.by_due (omega (arith, a.by_release)))

  -- Two rows, each of which comes before the other or is it, are one.
  pub comes_same : {i j : ℕ} → Comes i j → Comes j i → i ≡ j
  comes_same {i} {j} a b =
      let dues : (job i).due ≤ (job j).due = a.by_due b.by_release in
      let dues' : (job j).due ≤ (job i).due = b.by_due a.by_release in
      omega (arith, a.by_row b.by_release dues', b.by_row a.by_release dues)

  -- The test says which of two rows comes before the other; a row does not come before itself.
  module _ (i j : ℕ) where
    tested : (T (comes_before job i j) → Comes i j × ¬ (i ≡ j)) × (T (not (comes_before job i j)) → Comes j i)
    unfolding comes_before
    tested =
        ahead_says (job i).release (job j).release _
        (λ r. (release_comes r, λ e. omega (arith, ap (λ (k : ℕ). (job k).release) e))) release_comes (λ r.
        ahead_says (job i).due (job j).due _ (λ d. (due_comes r d, λ e. omega (arith, ap (λ (k : ℕ). (job k).due) e)))
        (due_comes (sym r)) (λ d. (
          λ h. let l : i < j = ltb→lt i j h in (row_comes r d (omega arith), λ e. omega arith),
          λ h. row_comes (sym r) (sym d)
              (nltb→le i j h),
        )))

    pub before_comes : comes_before job i j ≡ true → Comes i j × ¬ (i ≡ j)
    before_comes e = tested.0 (is_true _ e)

    pub not_before_comes : comes_before job i j ≡ false → Comes j i
    not_before_comes e = tested.1 (is_false _ e)

  pub comes_before_lem : (i j : ℕ) → Comes i j → ¬ (i ≡ j) → comes_before job i j ≡ true
  comes_before_lem i j a n = step (comes_before job i j) refl
    where
      step : (b : Bool) → comes_before job i j ≡ b → b ≡ true
      step true e = refl
      step false e = absurd (n (comes_same a (not_before_comes i j e)))
