-- Tests taken apart: what passed.
-- Assumes nothing.
use Prim.Native.Nat.{ℕ}
use native.Mathlib.Omega.{arith}
use mathlib.Core.Bool.{Bool, true, false, not}
use mathlib.Core.Path.{◌≡◌, refl}
use lib.Dec.{T}
use Rattle.std.specs.Prelude.{Result, Ok, Err}
use Rattle.std.specs.Result.{IsErrAnd}
use Rattle.std.proofs.lemmas.Result.{err_from_is_err_and}
use Rattle.refusals.specs.declared.Refusal.{Refusal}
use Rattle.refusals.specs.Tests.{Tested, refuse_if, ◌then◌}

-- Two constructors are never equal: `cc` then proves 0 ≡ 1, and all else follows.
pub never : {P : Type 0} → ◌≡◌ {A = ℕ} 0 1 → P
never e = let x : ⊥ = omega arith in absurd x

-- A refusal that `?` hands on.
pub handed_on : {A : Type 0} {refusal : Refusal} (r : Result A Refusal) → IsErrAnd r (λ e. e ≡ refusal) → r ≡ Err refusal
handed_on r h = let p = err_from_is_err_and r h in rw (p.1, p.2) refl

-- Tests in sequence, taken up after the first: where it is refused, and where it is passed.
pub then_refused : {a : Tested} (b : Tested) {refusal : Refusal} → a ≡ Err refusal → (a then b) ≡ Err refusal
unfolding ◌then◌
then_refused b e = rw e refl

pub then_passed : {a : Tested} (b : Tested) → a ≡ Ok tt → (a then b) ≡ b
unfolding ◌then◌
then_passed b e = rw e refl

-- Tests in sequence pass if each does.
pub then_left : (a b : Tested) → (a then b) ≡ Ok tt → a ≡ Ok tt
unfolding ◌then◌
then_left (Ok _) b e = refl
then_left (Err refusal) b e = e

pub then_right : (a b : Tested) → (a then b) ≡ Ok tt → b ≡ Ok tt
unfolding ◌then◌
then_right (Ok _) b e = e
then_right (Err refusal) b e = never (cc)

pub then_passes : (t : Bool) (n p : ℕ) (next : Tested) → T (not t) → next ≡ Ok tt → (refuse_if t n p then next) ≡ Ok tt
unfolding refuse_if ◌then◌
then_passes true n p next h e = absurd h
then_passes false n p next h e = e

pub not_refused : (t : Bool) (n p : ℕ) → refuse_if t n p ≡ Ok tt → t ≡ false
unfolding refuse_if
not_refused true n p e = never (cc)
not_refused false n p e = refl
