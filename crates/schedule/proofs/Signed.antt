-- Signed numbers as two naturals: what a number has above zero and what below. Orders between them are then orders that omega reads.
-- Assumes nothing.
use Prim.Native.Nat.{ℕ, zero, suc, ◌+◌, ◌-◌, ◌≤◌, ◌<◌}
use native.Mathlib.Omega.{arith}
use native.Mathlib.Decide.{dec_le}
use mathlib.Core.Path.{◌≡◌, ap}
use mathlib.Core.Bool.{Bool, true, false, not, cond}
use lib.Dec.{T, leb→le, le→leb, ltb, ltb→lt, lt→ltb, nltb→le, T_not}
use lib.IntN.{ℤ, pos, negsuc, sub_ℕ, pred_ℤ}
use lib.Signed.{le_z, lt_z}

-- A difference of two naturals, by its sign.
pub sub_cases : (a b : ℕ) (P : ℤ → Type 0) → ((k : ℕ) → b ≡ a + suc k → P (negsuc k)) → ((k : ℕ) → a ≡ b + k → P (pos k)) → P (sub_ℕ a b)
sub_cases a b P f g = go (ltb a b) (λ t. ltb→lt a b t) (λ t. nltb→le a b t)
  where
    go : (c : Bool) → (T c → a < b) → (T (not c) → b ≤ a) → P (cond c (negsuc (b - suc a)) (pos (a - b)))
    go true l n = let h : a < b = l tt in f (b - suc a) (omega arith)
    go false l n = let h : b ≤ a = n tt in g (a - b) (omega arith)

abbrev pub up : ℤ → ℕ
up (pos n) = n
up (negsuc n) = 0

abbrev pub down : ℤ → ℕ
down (pos n) = 0
down (negsuc n) = suc n

-- The order of two signed numbers, which omega reads.
abbrev pub ◌≼◌ : ℤ → ℤ → Type 0
◌≼◌ a b = up a + down b ≤ up b + down a

abbrev pub ◌≺◌ : ℤ → ℤ → Type 0
◌≺◌ a b = up a + down b < up b + down a

infix 50 ◌≼◌
infix 50 ◌≺◌
pub le_z→ : (a b : ℤ) → T (le_z a b) → a ≼ b
le_z→ (pos a) (pos b) t = let h : a ≤ b = leb→le a b t in omega arith
le_z→ (pos a) (negsuc b) t = absurd t
le_z→ (negsuc a) (pos b) t = omega arith
le_z→ (negsuc a) (negsuc b) t = let h : b ≤ a = leb→le b a t in omega arith

pub →le_z : (a b : ℤ) → a ≼ b → T (le_z a b)
→le_z (pos a) (pos b) h = le→leb a b (omega arith)
→le_z (pos a) (negsuc b) h = let z : ⊥ = omega arith in absurd z
→le_z (negsuc a) (pos b) h = tt
→le_z (negsuc a) (negsuc b) h = le→leb b a (omega arith)

pub lt_z→ : (a b : ℤ) → T (lt_z a b) → a ≺ b
lt_z→ (pos a) (pos b) t = let h : a < b = ltb→lt a b t in omega arith
lt_z→ (pos a) (negsuc b) t = absurd t
lt_z→ (negsuc a) (pos b) t = omega arith
lt_z→ (negsuc a) (negsuc b) t = let h : b < a = ltb→lt b a t in omega arith

pub →lt_z : (a b : ℤ) → a ≺ b → T (lt_z a b)
→lt_z (pos a) (pos b) h = lt→ltb a b (omega arith)
→lt_z (pos a) (negsuc b) h = let z : ⊥ = omega arith in absurd z
→lt_z (negsuc a) (pos b) h = tt
→lt_z (negsuc a) (negsuc b) h = lt→ltb b a (omega arith)

pub le_z_trans : (a b c : ℤ) → T (le_z a b) → T (le_z b c) → T (le_z a c)
le_z_trans a b c h k = →le_z a c (omega (arith, le_z→ a b h, le_z→ b c k))

pub le_z_total : (a b : ℤ) → T (not (le_z a b)) → T (le_z b a)
le_z_total a b t = step (dec_le (up b + down a) (up a + down b))
  where
    step : Dec (b ≼ a) → T (le_z b a)
    step (yes h) = →le_z b a h
    step (no h) = absurd (T_not (le_z a b) t (→le_z a b (omega arith)))

pub level : (a b : ℤ) → up a + down b ≡ up b + down a → a ≡ b
level (pos a) (pos b) h = ap pos (omega arith)
level (pos a) (negsuc b) h = let z : ⊥ = omega arith in absurd z
level (negsuc a) (pos b) h = let z : ⊥ = omega arith in absurd z
level (negsuc a) (negsuc b) h = ap negsuc (omega arith)

-- A difference, and the number before.
pub sub_level : (a b : ℕ) → up (sub_ℕ a b) + b ≡ a + down (sub_ℕ a b)
sub_level a b = sub_cases a b (λ z. up z + b ≡ a + down z) (λ k e. omega arith) (λ k e. omega arith)

pub pred_level : (z : ℤ) → suc (up (pred_ℤ z) + down z) ≡ up z + down (pred_ℤ z)
pred_level (pos zero) = omega arith
pred_level (pos (suc n)) = omega arith
pred_level (negsuc n) = omega arith
