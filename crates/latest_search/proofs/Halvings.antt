-- A number that is halved has fewer halvings left. Assumes nothing.
use Prim.Native.Nat.{ℕ, zero, suc, ◌+◌, ◌^◌, ◌≤◌, ◌<◌}
use native.Mathlib.Omega.{arith}
use native.Mathlib.Nat.{pow-suc}
use native.Mathlib.Decide.{dec_le}
use mathlib.Core.Bool.{Bool, true, false, cond}
use mathlib.Core.Path.{◌≡◌, refl, subst}
use lib.Dec.{leb}
use lib.Pow.{pow_mono}
use borrow.Author.Tests.{leb-true, leb-false}
use Rattle.latest_search.specs.Halvings.{bits, most_halvings, halvings, HalvingsFall}

bits_next : (k w : ℕ) (b : Bool) → leb (2 ^ k) w ≡ b → bits (suc k) w ≡ cond b (suc k) (bits k w)
unfolding bits
bits_next k w b e = rw e

-- They are no more than the power that is above the number, and that power is above it.
bits_most : (k w j : ℕ) → w < 2 ^ j → bits k w ≤ j
unfolding bits
bits_most zero w j h = omega arith
bits_most (suc k) w j h = step (leb (2 ^ k) w) refl (bits_most k w j h)
  where
    step : (b : Bool) → leb (2 ^ k) w ≡ b → bits k w ≤ j → bits (suc k) w ≤ j
    step true e f = rw (bits_next k w true e) (above (dec_le (suc k) j))
      where
        above : Dec (suc k ≤ j) → suc k ≤ j
        above (yes l) = l
        above (no l) = absurd (omega (arith, leb-true (2 ^ k) w e, h, pow_mono {i = j} {j = k} (omega arith)))
    step false e f = rw (bits_next k w false e) f

bits_above : (k w : ℕ) → w < 2 ^ k → w < 2 ^ bits k w
unfolding bits
bits_above zero w h = h
bits_above (suc k) w h = step (leb (2 ^ k) w) refl (bits_above k w)
  where
    step : (b : Bool) → leb (2 ^ k) w ≡ b → (w < 2 ^ k → w < 2 ^ bits k w) → w < 2 ^ bits (suc k) w
    step true e f = rw (bits_next k w true e) h
    step false e f = rw (bits_next k w false e) (f (leb-false (2 ^ k) w e))

bits_few : (k w : ℕ) → bits k w ≤ k
unfolding bits
bits_few zero w = omega arith
bits_few (suc k) w = step (leb (2 ^ k) w) refl (bits_few k w)
  where
    step : (b : Bool) → leb (2 ^ k) w ≡ b → bits k w ≤ k → bits (suc k) w ≤ suc k
    step true e f = rw (bits_next k w true e) (omega arith)
    step false e f = rw (bits_next k w false e) (omega arith)

falls : (v w : ℕ) → 0 < w → w < 2 ^ most_halvings → v + v ≤ w → halvings v < halvings w
falls v w low h half = step (halvings w) refl
  where
    step : (k : ℕ) → halvings w ≡ k → halvings v < halvings w
    step zero e = absurd (omega (arith, low, subst (λ (j : ℕ). w < 2 ^ j) e (bits_above most_halvings w h)))
    step (suc k) e =
        let a : w < 2 ^ suc k = subst (λ (j : ℕ). w < 2 ^ j) e (bits_above most_halvings w h) in
        omega (arith, e, bits_most most_halvings v k (omega (arith, a, half, pow-suc 2 k)))

pub halvings_fall : HalvingsFall
halvings_fall = record { most = bits_few most_halvings; falls = falls }
