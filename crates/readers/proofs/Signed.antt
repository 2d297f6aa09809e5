-- Signed differences of naturals: their order is an order of crossed sums.
-- Assumes nothing.
use Prim.Native.Nat.{ℕ, ◌+◌, ◌≤◌, ◌<◌}
use native.Mathlib.Omega.{arith}
use mathlib.Core.Bool.{Bool, true, false}
use mathlib.Core.Path.{◌≡◌, refl, sym}
use lib.Dec.{ltb}
use lib.IntN.{pos, negsuc, sub_ℕ}
use lib.Signed.{lt_z}
use borrow.Author.Tests.{le-ltb, lt-ltb, ltb-true, ltb-false}
use Rattle.schedule.proofs.Signed.{sub_cases}

-- Two comparisons that hold together are equal.
pub ltb_same : (x y u v : ℕ) → (x < y → u < v) → (u < v → x < y) → ltb x y ≡ ltb u v
ltb_same x y u v f g = go (ltb u v) (λ e. lt-ltb x y (g (ltb-true u v e))) (λ e. le-ltb x y (back (ltb-false u v e)))
  where
    back : v ≤ u → y ≤ x
    back h = go' (ltb x y) (λ e. f (ltb-true x y e)) (λ e. ltb-false x y e)
      where
        go' : (b : Bool) → (b ≡ true → u < v) → (b ≡ false → y ≤ x) → y ≤ x
        go' true p q = let z : u < v = p refl in omega arith
        go' false p q = q refl

    go : (b : Bool) → (b ≡ true → ltb x y ≡ true) → (b ≡ false → ltb x y ≡ false) → ltb x y ≡ b
    go true p q = p refl
    go false p q = q refl

pub lt_z_sums : (a b c d : ℕ) → lt_z (sub_ℕ a b) (sub_ℕ c d) ≡ ltb (a + d) (c + b)
lt_z_sums a b c d =
    sub_cases a b (λ z. lt_z z (sub_ℕ c d) ≡ ltb (a + d) (c + b))
    (λ k e. sub_cases c d (λ z. lt_z (negsuc k) z ≡ ltb (a + d) (c + b))
    (λ m e'. ltb_same m k (a + d) (c + b) (λ h. omega arith) (λ h. omega arith))
    (λ m e'. sym (lt-ltb (a + d) (c + b) (omega arith))))
    (λ k e. sub_cases c d (λ z. lt_z (pos k) z ≡ ltb (a + d) (c + b))
    (λ m e'. sym (le-ltb (a + d) (c + b) (omega arith)))
    (λ m e'. ltb_same k m (a + d) (c + b) (λ h. omega arith) (λ h. omega arith)))
