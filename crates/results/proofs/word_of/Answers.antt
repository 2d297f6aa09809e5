-- `word_of` meets its contract: a signed number cast is its two's complement.
-- Assumes nothing.
use Prim.Native.Nat.{◌<◌}
use native.Mathlib.Omega.{arith}
use mathlib.Core.Path.{◌≡◌, refl, ap, ◌∙◌}
use lib.Signed.{mag}
use Rattle.std.specs.Prelude.{ℤ, pos, negsuc}
use Rattle.std.proofs.Common.{w32, of_z}
use Rattle.std.proofs.lemmas.Int.{of_z-to_z}
use Rattle.results.specs.Results.{complement}
use Rattle.results.proofs.word_of.Goals as goal

as_complement : (z : ℤ) → of_z w32 z ≡ complement z
unfolding complement
as_complement (pos n) = refl
as_complement (negsuc n) = omega arith

in_word : (z : ℤ) → mag z < 2147483648 → of_z w32 z < 4294967296
in_word (pos n) h = omega arith
in_word (negsuc n) h = omega arith

pub returns : goal.returns
returns c =
    c.cast_unsigned.ensures ∙ of_z-to_z w32 (of_z w32 c.lower.result) (in_word c.lower.result c.lower.type_inv) ∙
    as_complement c.lower.result ∙ ap complement c.lower.ensures
