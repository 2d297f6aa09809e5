-- The greatest number up to n that passes a test. Assumes nothing.
use Prim.Native.Nat.{ℕ, zero, suc, ◌≤◌, ◌<◌}
use native.Mathlib.Omega.{arith}
use native.Mathlib.Decide.{ℕ_discrete}
use mathlib.Core.Bool.{Bool, true, false, cond}
use mathlib.Core.Path.{◌≡◌, refl, sym, ap, ◌∙◌, subst}
use mathlib.Core.Option.{none, some, some-injective, none-ne-some}
use lib.Dec.{T}
use Rattle.schedule.proofs.Tests.{is_true, true_is}
use Rattle.how_late.specs.Latest.{greatest}

-- A test that is not passed.
pub fails : (b : Bool) → ¬ T b → b ≡ false
fails true h = absurd (h tt)
fails false h = refl

module _ (test : ℕ → Bool) where
  pub record Greatest (n t : ℕ) : Type 0 where
    pub within : t ≤ n
    pub passes : T (test t)
    pub none_above : (s : ℕ) → t < s → s ≤ n → ¬ T (test s)

  at_next : (n : ℕ) (b : Bool) → test (suc n) ≡ b → greatest test (suc n) ≡ cond b (some (suc n)) (greatest test n)
  unfolding greatest
  at_next n b e = rw e

  at_zero : (b : Bool) → test 0 ≡ b → greatest test 0 ≡ cond b (some 0) none
  unfolding greatest
  at_zero b e = rw e

  pub greatest_found : (n t : ℕ) → Greatest n t → greatest test n ≡ some t
  greatest_found zero t g =
      let e : t ≡ 0 = omega (arith, g.within) in
      at_zero true (true_is (test 0) (subst (λ (s : ℕ). T (test s)) e g.passes)) ∙ ap some (sym e)
  greatest_found (suc n) t g = step (ℕ_discrete t (suc n)) (greatest_found n t)
    where
      step : Dec (t ≡ suc n) → (Greatest n t → greatest test n ≡ some t) → greatest test (suc n) ≡ some t
      step (yes e) f = at_next n true (true_is (test (suc n)) (subst (λ (s : ℕ). T (test s)) e g.passes)) ∙ ap some (sym e)
      step (no d) f =
          at_next n false (fails (test (suc n)) (g.none_above (suc n) (omega (arith, g.within, d)) (omega arith))) ∙
          f (record { within = omega (arith, g.within, d); passes = g.passes; none_above = λ s l h. g.none_above s l (omega arith) })

  pub greatest_is : (n t : ℕ) → greatest test n ≡ some t → Greatest n t
  greatest_is zero t e = step (test 0) refl
    where
      step : (b : Bool) → test 0 ≡ b → Greatest zero t
      step true h =
          let z : 0 ≡ t = some-injective 0 t (sym (at_zero true h) ∙ e) in
          record {
            within = omega arith;
            passes = subst (λ (s : ℕ). T (test s)) z (is_true (test 0) h);
            none_above = λ s l g. absurd (omega arith);
          }
      step false h = absurd (none-ne-some t (sym (at_zero false h) ∙ e))
  greatest_is (suc n) t e = step (test (suc n)) refl (greatest_is n t)
    where
      above : (s : ℕ) → ¬ T (test (suc n)) → Greatest n t → t < s → s ≤ suc n → T (test s) → Dec (s ≡ suc n) → ⊥
      above s h g l k p (yes q) = h (subst (λ (x : ℕ). T (test x)) q p)
      above s h g l k p (no q) = g.none_above s l (omega arith) p

      step : (b : Bool) → test (suc n) ≡ b → (greatest test n ≡ some t → Greatest n t) → Greatest (suc n) t
      step true h f =
          let z : suc n ≡ t = some-injective (suc n) t (sym (at_next n true h) ∙ e) in
          record {
            within = omega arith;
            passes = subst (λ (s : ℕ). T (test s)) z (is_true (test (suc n)) h);
            none_above = λ s l g. absurd (omega arith);
          }
      step false h f =
          let g = f (sym (at_next n false h) ∙ e) in
          record {
            within = omega (arith, g.within);
            passes = g.passes;
            none_above = λ s l k p. above s (λ w. subst T h w) g l k p (ℕ_discrete s (suc n));
          }

  pub greatest_none : (n : ℕ) → ((s : ℕ) → s ≤ n → ¬ T (test s)) → greatest test n ≡ none
  greatest_none zero h = at_zero false (fails (test 0) (h 0 (omega arith)))
  greatest_none (suc n) h =
      at_next n false (fails (test (suc n)) (h (suc n) (omega arith))) ∙ greatest_none n (λ s l. h s (omega arith))

  -- Where there is none, 0 does not pass either.
  pub zero_fails : (n : ℕ) → greatest test n ≡ none → ¬ T (test 0)
  zero_fails zero e p = none-ne-some 0 (sym e ∙ at_zero true (true_is (test 0) p))
  zero_fails (suc n) e p = step (test (suc n)) refl (zero_fails n)
    where
      step : (b : Bool) → test (suc n) ≡ b → (greatest test n ≡ none → ¬ T (test 0)) → ⊥
      step true h f = none-ne-some (suc n) (sym e ∙ at_next n true h)
      step false h f = f (sym (at_next n false h) ∙ e) p
