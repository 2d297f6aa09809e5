-- Raised numbers compare as the signed ones do, and a raised lateness is end minus due.
-- Assumes nothing.
use Prim.Native.Nat.{ℕ, ◌+◌, ◌-◌, ◌≤◌, ◌<◌, max}
use native.Mathlib.Omega.{arith}
use mathlib.Core.Bool.{Bool, true, false, cond}
use mathlib.Core.Path.{◌≡◌, refl, sym, ap, ◌∙◌}
use lib.Dec.{T, leb, ltb, leb→le, le→leb, ltb→lt, lt→ltb}
use lib.IntN.{sub_ℕ}
use lib.Signed.{le_z, lt_z}
use borrow.Author.Tests.{leb-true, leb-false}
use Rattle.schedule.specs.Desk.{max_z}
use Rattle.schedule.specs.Offset.{lowered}
use Rattle.schedule.proofs.Signed.{le_z→, →le_z, lt_z→, →lt_z, level, sub_level}

one_test : (s t : Bool) → (T s → T t) → (T t → T s) → s ≡ t
one_test true true f g = refl
one_test true false f g = absurd (f tt)
one_test false true f g = absurd (g tt)
one_test false false f g = refl

pub lowered_le : (a b : ℕ) → le_z (lowered a) (lowered b) ≡ leb a b
lowered_le a b =
    one_test (le_z (lowered a) (lowered b)) (leb a b)
    (λ t. le→leb a b (omega (arith, le_z→ (lowered a) (lowered b) t, sub_level a 2147483648, sub_level b 2147483648)))
    (λ t. →le_z (lowered a) (lowered b) (omega (arith, leb→le a b t, sub_level a 2147483648, sub_level b 2147483648)))

pub lowered_lt : (a b : ℕ) → lt_z (lowered a) (lowered b) ≡ ltb a b
lowered_lt a b =
    one_test (lt_z (lowered a) (lowered b)) (ltb a b)
    (λ t. lt→ltb a b (omega (arith, lt_z→ (lowered a) (lowered b) t, sub_level a 2147483648, sub_level b 2147483648)))
    (λ t. →lt_z (lowered a) (lowered b) (omega (arith, ltb→lt a b t, sub_level a 2147483648, sub_level b 2147483648)))

pub late_lowered : (end due : ℕ) → due ≤ 2147483648 → lowered (end + 2147483648 - due) ≡ sub_ℕ end due
late_lowered end due h = level (lowered (end + 2147483648 - due)) (sub_ℕ end due)
    (omega (arith, sub_level (end + 2147483648 - due) 2147483648, sub_level end due))

pub max_lowered : (a b : ℕ) → lowered (max a b) ≡ max_z (lowered a) (lowered b)
unfolding max_z
max_lowered a b = go (leb a b) refl
  where
    go : (t : Bool) → leb a b ≡ t → lowered (max a b) ≡ cond (le_z (lowered a) (lowered b)) (lowered b) (lowered a)
    go true e =
        let h : a ≤ b = leb-true a b e in
        let m : max a b ≡ b = omega arith in
        ap lowered m ∙ ap (λ (c : Bool). cond c (lowered b) (lowered a)) (sym (lowered_le a b ∙ e))
    go false e =
        let h : b < a = leb-false a b e in
        let m : max a b ≡ a = omega arith in
        ap lowered m ∙ ap (λ (c : Bool). cond c (lowered b) (lowered a)) (sym (lowered_le a b ∙ e))
