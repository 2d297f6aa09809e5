-- Tests taken apart and put together; what a comparison says.
-- Assumes nothing.
use Prim.Native.Nat.compare
use Prim.Native.Nat.{ℕ, zero, suc, ◌<◌, compare, Ordering}
use native.Mathlib.Omega.{arith}
use mathlib.Core.Bool.{Bool, true, false, not, ◌&&◌, ◌||◌}
use mathlib.Core.Path.{◌≡◌, refl, sym, subst}
use mathlib.Core.Logic.{◌⊎◌, inl, inr}
use lib.Dec.{T}

-- False is not true.
pub false_is_true : {A : Type 0} → ◌≡◌ {A = Bool} false true → A
false_is_true e = let z : ⊥ = subst T (sym e) tt in absurd z

pub both : (a b : Bool) → T a → T b → T (a && b)
both true b s t = t
both false b s t = s

pub parts : (a b : Bool) → T (a && b) → T a × T b
parts true b t = (tt, t)
parts false b t = absurd t

pub or_cases : (a b : Bool) → T (a || b) → T a ⊎ T b
or_cases true b t = inl tt
or_cases false b t = inr t

pub or_left : (a b : Bool) → T a → T (a || b)
or_left true b t = tt
or_left false b t = absurd t

pub or_right : (a b : Bool) → T b → T (a || b)
or_right true b t = tt
or_right false b t = t

pub or_true : (b : Bool) → (b || true) ≡ true
or_true true = refl
or_true false = refl

pub or_second : (a b : Bool) → T (a || b) → ¬ T a → T b
or_second true b t n = absurd (n tt)
or_second false b t n = t

pub nor : (a b : Bool) → T (not a) → T (not b) → T (not (a || b))
nor true b s t = s
nor false b s t = t

pub nor_both : (a b : Bool) → T (not (a || b)) → T (not a) × T (not b)
nor_both true b t = absurd t
nor_both false b t = (tt, t)

pub neither : (a b : Bool) → (a || b) ≡ false → (a ≡ false) × (b ≡ false)
neither true b e = let t : ⊥ = subst T e tt in absurd t
neither false b e = (refl, e)

pub is_true : (b : Bool) → b ≡ true → T b
is_true b e = rw e tt

pub true_is : (b : Bool) → T b → b ≡ true
true_is true t = refl
true_is false t = absurd t

pub is_false : (b : Bool) → b ≡ false → T (not b)
is_false b e = rw e tt

-- What a comparison says.
abbrev pub Compared : ℕ → ℕ → Ordering → Type 0
Compared a b Ordering.lt = a < b
Compared a b Ordering.eq = a ≡ b
Compared a b Ordering.gt = b < a

pub compared : (a b : ℕ) → Compared a b (compare a b)
compared zero zero = subst (Compared 0 0) (sym compare.zero-zero) refl
compared zero (suc n) = subst (Compared 0 (suc n)) (sym (compare.zero-suc n)) (omega arith)
compared (suc m) zero = subst (Compared (suc m) 0) (sym (compare.suc-zero m)) (omega arith)
compared (suc m) (suc n) = subst (Compared (suc m) (suc n)) (sym (compare.suc-suc m n)) (up (compare m n) (compared m n))
  where
    up : (o : Ordering) → Compared m n o → Compared (suc m) (suc n) o
    up Ordering.lt h = omega arith
    up Ordering.eq h = omega arith
    up Ordering.gt h = omega arith
