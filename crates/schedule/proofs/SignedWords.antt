-- Signed numbers as 32-bit words: raised by 2³¹ and lowered again.
-- Assumes nothing.
use Prim.Native.Nat.{ℕ, zero, suc, ◌+◌, ◌-◌, ◌≤◌, ◌<◌}
use mathlib.Core.Path.{◌≡◌, refl, ap, sym, subst, ◌∙◌}
use native.Mathlib.Omega.{arith}
use lib.IntN.{ℤ, pos, negsuc, sub_ℕ, ◌+ℤ◌, ◌-ℤ◌}
use lib.Signed.{mag}
use mir.Syntax.{w32, w64}
use mir.Val.{SFits, to_z, of_z}
use mir.ValLaws.{to_z-of_z, to_z_pos}
use mir.Facts.{sfits_widen}
use borrow.Author.Tests.{le-ltb}
use Rattle.schedule.specs.Offset.{raised, lowered}
use Rattle.schedule.proofs.Signed.{sub_cases}

-- A signed 32-bit number comes back from what it is raised to, and the other way round.
pub lowered_raised : (z : ℤ) → mag z < 2147483648 → lowered (raised z) ≡ z
lowered_raised (pos n) h = sub_cases (n + 2147483648) 2147483648 (λ z. z ≡ pos n) (λ k e. let x : ⊥ = omega arith in absurd x)
    (λ k e. ap pos (omega arith))
lowered_raised (negsuc n) h = sub_cases (2147483647 - n) 2147483648 (λ z. z ≡ negsuc n) (λ k e. ap negsuc (omega arith))
    (λ k e. let x : ⊥ = omega arith in absurd x)

pub raised_lowered : (n : ℕ) → raised (lowered n) ≡ n
raised_lowered n = sub_cases n 2147483648 (λ z. raised z ≡ n) (λ k e. omega arith) (λ k e. omega arith)

-- A signed 32-bit number through 64 bits is itself.
pub widened : (z : ℤ) → SFits w32 z → to_z w64 (of_z w64 (to_z w32 (of_z w32 z))) ≡ z
widened z f = ap (λ (y : ℤ). to_z w64 (of_z w64 y)) (to_z-of_z w32 z f) ∙ to_z-of_z w64 z (sfits_widen tt f)

pub widens : (z : ℤ) → SFits w32 z → SFits w64 (to_z w32 (of_z w32 z))
widens z f = subst (SFits w64) (sym (to_z-of_z w32 z f)) (sfits_widen tt f)

pub raised_is : (y : ℤ) → SFits w32 y → y +ℤ pos 2147483648 ≡ pos (raised y)
raised_is (pos n) f = refl
raised_is (negsuc n) f = let h : suc n ≤ 2147483648 = omega (arith, f.sfits) in rw (le-ltb 2147483648 (suc n) h) (ap pos (omega arith))

pub raised_fits : (y : ℤ) → SFits w32 y → raised y < 4294967296
raised_fits (pos n) f = omega (arith, f.sfits)
raised_fits (negsuc n) f = omega (arith, f.sfits)

-- The code's difference is the definition's.
minus_sub : (a b : ℕ) → pos a -ℤ pos b ≡ sub_ℕ a b
minus_sub a zero = sub_cases a 0 (λ z. pos (a + 0) ≡ z) (λ k e. let z : ⊥ = omega arith in absurd z) (λ k e. ap pos (omega arith))
minus_sub a (suc b) = refl

pub lowered_is : (n : ℕ) → n < 4294967296 → to_z w64 n -ℤ pos 2147483648 ≡ lowered n
lowered_is n h = ap (λ (z : ℤ). z -ℤ pos 2147483648) (to_z_pos w64 n (omega arith)) ∙ minus_sub n 2147483648

pub lowered_fits : (n : ℕ) → n < 4294967296 → mag (lowered n) < 2147483648
lowered_fits n h = sub_cases n 2147483648 (λ z. mag z < 2147483648) (λ k e. omega arith) (λ k e. omega arith)

-- A lowered number as a 32-bit word is itself.
pub lowered_word : (n : ℕ) (z : ℤ) → n < 4294967296 → z ≡ lowered n → to_z w32 (of_z w32 z) ≡ lowered n
lowered_word n z h e = ap (λ (y : ℤ). to_z w32 (of_z w32 y)) e ∙ to_z-of_z w32 (lowered n) (record { sfits = lowered_fits n h })
