-- The ways that a window goes, and the turn by either name. Assumes nothing.
use Prim.Native.Nat.{ℕ, ◌*◌, ◌≤◌, ◌<◌}
use native.Mathlib.Omega.{arith}
use mathlib.Core.Path.{◌≡◌, refl, sym, subst}
use mathlib.Core.List.{List, [], ◌∷◌}
use borrow.Author.Tests.{le-ltb, lt-ltb}
use lib.ListN.{length}
use Rattle.input.specs.Input.{words_in}
use Rattle.month_input.specs.Layout.{most_words, cut_day}
use Rattle.month_input.proofs.Bytes.{words_within}
use Rattle.totals.specs.declared.Totals.{Totals}
use Rattle.month_step.specs.declared.Step.{Step}
use Rattle.month_step.specs.declared.Step.TheVariants.{Taken, End, Broken}
use Rattle.month_step.specs.Turns.{Next, ended, astray, next_of, next_day}
use Rattle.month_step.specs.Steps.{Stepped, StepWithin}

-- The three ways that a window goes.
module _ (n : ℕ) where
  pub no_bytes : (window : List ℕ) → length window ≡ 0 → next_day n window ≡ ended
  unfolding next_day
  no_bytes [] h = refl
  no_bytes (b ∷ bs) h = absurd (omega arith)

  pub too_many : (window : List ℕ) → 0 < length window → 31 ≤ n → next_day n window ≡ astray
  unfolding next_day
  too_many [] h l = absurd (omega arith)
  too_many (b ∷ bs) h l = rw (le-ltb n 31 l) refl

  pub next_cut : (window : List ℕ) → 0 < length window → n < 31 → next_day n window ≡ next_of (cut_day (words_in most_words window))
  unfolding next_day
  next_cut [] h l = absurd (omega arith)
  next_cut (b ∷ bs) h l = rw (lt-ltb n 31 l) refl

-- What is stepped by one name is stepped by the other.
pub stepped_as : (t : Totals) (r : Step) {x y : Next} → x ≡ y → Stepped t y r → Stepped t x r
stepped_as t r e s = subst (λ (z : Next). Stepped t z r) (sym e) s

-- The words of a window are within its bytes.
pub step_within : (n : ℕ) (bytes : List ℕ) (r : Step) → StepWithin (4 * length (words_in n bytes)) r → StepWithin (length bytes) r
step_within n bytes (Taken t used) (f, d, u) = (f, d, omega (arith, u, words_within n bytes))
step_within n bytes End w = w
step_within n bytes Broken w = w
