-- Tests that run one after another: the first refusal turns the call down.
-- Rests on: nothing.
use Rattle.std.specs.Prelude.{ℕ, Bool, true, false, Result, Ok, Err}
use Rattle.refusals.specs.declared.Refusal.{Refusal}

-- How tests come out: they are passed, or the call is refused.
abbrev pub Tested : Type 0
Tested = Result (Unit {0}) Refusal

-- The refusal with this number at this place.
abbrev pub refusal_at : (number place : ℕ) → Refusal
refusal_at number place = record { number = number; place = place }

-- One test: where it is true, the refusal with its number and its place.
unfoldable pub refuse_if : Bool → ℕ → ℕ → Tested
refuse_if true number place = Err (refusal_at number place)
refuse_if false number place = Ok tt

-- Tests in sequence: the first refusal turns the call down.
infixr 20 ◌then◌
unfoldable pub ◌then◌ : Tested → Tested → Tested
Ok _ then next = next
Err refusal then next = Err refusal

-- Opens every definition of this file: name it on an `unfolding` line where all is to be computed.
unfoldable pub open_refusals : Unit {0}
unfolding refuse_if ◌then◌
open_refusals = tt
