-- A start on a running desk is turned down exactly as the table says; one that is not refused has passed its tests.
-- Assumes nothing.
use Prim.Native.Nat.{ℕ, ◌≤◌, ◌<◌}
use native.Mathlib.Omega.{arith}
use mathlib.Core.Bool.{Bool, true, false, ◌||◌}
use mathlib.Core.Path.{◌≡◌, refl, sym, ap, ◌∙◌}
use mathlib.Core.List.{List, Memᴰ}
use mathlib.Core.Logic.{◌⊎◌, inl, inr}
use lib.Dec.{T, ltb}
use lib.ListN.{length}
use borrow.Author.Tests.{ltb-true, ltb-false}
use Rattle.std.specs.Prelude.{Ok, Err}
use Rattle.schedule.specs.Limits.{latest_start}
use Rattle.schedule.specs.Rows.{stands}
use Rattle.schedule.proofs.Tests.{false_is_true, true_is, is_true, or_cases, neither}
use Rattle.schedule.proofs.Stands.{stands_mem, mem_stands}
use Rattle.refusals.specs.Refusals.{by_unlisted, by_done, by_early}
use Rattle.refusals.specs.Tests.{refuse_if, ◌then◌, refusal_at}
use Rattle.running.specs.Running.{Running, between, job_in, start_tests}
use Rattle.running.specs.Words.{running, is_desk}
use Rattle.running.proofs.Fits.{lies, between_two}
use Rattle.desk_start.proofs.StartLaws.{start_none, start_no}
use Rattle.open_desk.specs.Answers.{said_start}
use Rattle.open_desk.specs.History.{desk_start}
use Rattle.open_desk.specs.Table.{StartTurned, unlisted, done, early}

-- How the tests of a start come out: by one refusal, and the table has it and no other; or they are passed, and the table has none.
pub data Found (d : Running) (i m : ℕ) : Type 0 where
  refuses : (n p : ℕ) → 1 ≤ n → start_tests d i m ≡ Err (refusal_at n p) → StartTurned d i m n p →
      ((k q : ℕ) → StartTurned d i m k q → (n ≡ k) × (p ≡ q)) → Found d i m
  passes : start_tests d i m ≡ Ok tt → ((k q : ℕ) → ¬ StartTurned d i m k q) → Found d i m

module _ (d : Running) (i m : ℕ) where
  abbrev n : ℕ
  n = length d.rows

  abbrev too_early : Bool
  too_early = ltb m d.minute || (ltb m (job_in d.rows i).release || ltb latest_start m)

  abbrev TooEarly : Type 0
  TooEarly = (m < d.minute) ⊎ (m < (job_in d.rows i).release) ⊎ (latest_start < m)

  so_early : too_early ≡ true → TooEarly
  so_early e = first (or_cases (ltb m d.minute) _ (is_true _ e))
    where
      second : T (ltb m (job_in d.rows i).release) ⊎ T (ltb latest_start m) → TooEarly
      second (inl t) = inr (inl (ltb-true _ _ (true_is _ t)))
      second (inr t) = inr (inr (ltb-true _ _ (true_is _ t)))

      first : T (ltb m d.minute) ⊎ T (ltb m (job_in d.rows i).release || ltb latest_start m) → TooEarly
      first (inl t) = inl (ltb-true _ _ (true_is _ t))
      first (inr t) = second (or_cases (ltb m (job_in d.rows i).release) _ t)

  not_early : too_early ≡ false → ¬ TooEarly
  not_early e h =
      let a = neither (ltb m d.minute) _ e in
      let b = neither (ltb m (job_in d.rows i).release) _ a.1 in
      go h (ltb-false _ _ a.0) (ltb-false _ _ b.0) (ltb-false _ _ b.1)
    where
      go : TooEarly → d.minute ≤ m → (job_in d.rows i).release ≤ m → m ≤ latest_start → ⊥
      go (inl x) f g k = omega arith
      go (inr (inl x)) f g k = omega arith
      go (inr (inr x)) f g k = omega arith

  no_row : between 1 n i ≡ false → ¬ ((1 ≤ i) × (i ≤ n))
  no_row e h = false_is_true (sym e ∙ true_is _ (between_two 1 n i h))

  not_left : stands i d.left ≡ false → ¬ Memᴰ i d.left
  not_left e h = false_is_true (sym e ∙ mem_stands i d.left h)

  pub found : Found d i m
  unfolding start_tests refuse_if ◌then◌
  found = step (between 1 n i) (stands i d.left) too_early refl refl refl
    where
      step : (a b c : Bool) → between 1 n i ≡ a → stands i d.left ≡ b → too_early ≡ c → Found d i m
      step false b c e f g = refuses by_unlisted n (omega arith) (rw e) (unlisted (no_row e)) only
        where
          only : (k q : ℕ) → StartTurned d i m k q → (by_unlisted ≡ k) × (n ≡ q)
          only _ _ (unlisted u) = (refl, refl)
          only _ _ (done l h u) = absurd (no_row e (l, h))
          only _ _ (early l h u t) = absurd (no_row e (l, h))
      step true false c e f g =
          let l = lies 1 n i (is_true _ e) in
          refuses by_done i (omega arith) (rw (e, f)) (done l.0 l.1 (not_left f)) only
        where
          only : (k q : ℕ) → StartTurned d i m k q → (by_done ≡ k) × (i ≡ q)
          only _ _ (unlisted u) = absurd (u (lies 1 n i (is_true _ e)))
          only _ _ (done l h u) = (refl, refl)
          only _ _ (early l h u t) = absurd (not_left f u)
      step true true true e f g =
          let l = lies 1 n i (is_true _ e) in
          refuses by_early 0 (omega arith) (rw (e, f, g)) (early l.0 l.1 (stands_mem i d.left f) (so_early g)) only
        where
          only : (k q : ℕ) → StartTurned d i m k q → (by_early ≡ k) × (0 ≡ q)
          only _ _ (unlisted u) = absurd (u (lies 1 n i (is_true _ e)))
          only _ _ (done l h u) = absurd (u (stands_mem i d.left f))
          only _ _ (early l h u t) = (refl, refl)
      step true true false e f g = passes (rw (e, f, g)) never
        where
          never : (k q : ℕ) → ¬ StartTurned d i m k q
          never _ _ (unlisted u) = u (lies 1 n i (is_true _ e))
          never _ _ (done l h u) = u (stands_mem i d.left f)
          never _ _ (early l h u t) = not_early g t

-- A start on lent words that is not refused is one on a desk, and has passed its tests.
pub start_passed : (ws : List ℕ) (i m : ℕ) → (desk_start ws i m).answer.number ≡ 0 →
    (is_desk ws ≡ true) × (start_tests (running ws) i m ≡ Ok tt)
start_passed ws i m granted = step (is_desk ws) refl
  where
    on : is_desk ws ≡ true → Found (running ws) i m → start_tests (running ws) i m ≡ Ok tt
    on e (refuses n p l t u only) =
        let z : ⊥ = omega (arith, granted, ap (λ o. (said_start o.answer).number) (start_no ws i m e (refusal_at n p) t), l) in absurd z
    on e (passes t never) = t

    step : (b : Bool) → is_desk ws ≡ b → (is_desk ws ≡ true) × (start_tests (running ws) i m ≡ Ok tt)
    step false e = let z : ⊥ = omega (arith, granted, ap (λ o. (said_start o.answer).number) (start_none ws i m e)) in absurd z
    step true e = (e, on e (found (running ws) i m))
