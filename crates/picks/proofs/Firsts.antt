-- The first pick is the row that is ahead of every other: by its ready minute, or at one ready minute by rank.
-- Assumes nothing.
use Prim.Native.Nat.{ℕ, ◌≤◌, ◌<◌, max, compare, Ordering}
use native.Mathlib.Omega.{arith}
use mathlib.Core.Bool.{true}
use mathlib.Core.Path.{◌≡◌, refl, ap, ◌∙◌}
use mathlib.Core.List.Memᴰ
use mathlib.Core.List.{List, [], ◌∷◌, Memᴰ}
use Rattle.theory.specs.Jobs.{Job, ready}
use Rattle.schedule.specs.Rows.{without}
use Rattle.schedule.specs.Picks.{ahead, outranks, before, least_of, first_pick, others, second_pick}
use Rattle.schedule.proofs.Tests.{is_true, Compared, compared}
use Rattle.schedule.proofs.PickLaws.{least_mem, least_ahead, before_ahead, Ahead, ahead_same}

module _ {job : ℕ → Job} {t : ℕ} where
  pub pick_is : (i : ℕ) (rest : List ℕ) → Memᴰ i rest → ((j : ℕ) → Memᴰ j rest → Ahead job t i j) → i ≡ first_pick job t rest
  unfolding first_pick
  pick_is i [] m f = absurd (Memᴰ.not-nil m)
  pick_is i (k ∷ ks) m f = ahead_same job (f (least_of job t k ks) (least_mem job t k ks)) (least_ahead job t k ks m)

  -- Ahead by the ready minute,
  pub sooner : {i j : ℕ} → (job i).release < (job j).release → t < (job j).release → Ahead job t i j
  unfolding ready
  sooner l late = record { by_ready = omega arith; by_due = λ h. omega arith; by_end_lem = λ h g. omega arith; by_row = λ h g f. omega arith }

  -- and by rank.
  pub ranked : {i j : ℕ} → (job i).release ≤ max t (job j).release → outranks job i j ≡ true → Ahead job t i j
  unfolding before ready
  ranked {i} {j} l o = before_ahead job t i j
      (is_true _ (go (compare (ready (job i) t) (ready (job j) t)) (compared (ready (job i) t) (ready (job j) t))))
    where
      go : (r : Ordering) → Compared (ready (job i) t) (ready (job j) t) r → ahead r (outranks job i j) ≡ true
      go Ordering.lt c = refl
      go Ordering.eq c = o
      go Ordering.gt c = let z : ⊥ = omega arith in absurd z

-- The second pick is the first among the others.
pub second_is : (job : ℕ → Job) (t : ℕ) (rest : List ℕ) (i j : ℕ) → i ≡ first_pick job t rest → j ≡ first_pick job t (without i rest) → j ≡
    second_pick job t rest
unfolding second_pick others
second_is job t rest i j e f = f ∙ ap (λ (k : ℕ). first_pick job t (without k rest)) e
