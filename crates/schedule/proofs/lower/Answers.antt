-- `lower` meets its contract: the difference fits, and is the number that is raised.
-- Assumes nothing.
use native.Mathlib.Omega.{arith}
use mathlib.Core.Path.{◌≡◌, ap, sym, subst, ◌∙◌}
use lib.IntN.{ℤ, pos, ◌-ℤ◌}
use mir.Syntax.{w32, w64}
use mir.Val.{SFits, to_z, of_z}
use mir.ValLaws.{to_z-of_z}
use mir.Facts.{sfits_widen}
use Rattle.schedule.specs.Offset.{lowered}
use Rattle.schedule.proofs.SignedWords.{lowered_is, lowered_fits}
use Rattle.schedule.proofs.lower.Goals as goal

small : (c : goal.Start) → SFits w32 (lowered c.args.late)
small c = record { sfits = lowered_fits c.args.late (omega arith) }

difference : (c : goal.Start) → to_z w64 c.args.late -ℤ pos 2147483648 ≡ lowered c.args.late
difference c = lowered_is c.args.late (omega arith)

fits : (c : goal.Start) → SFits w64 (to_z w64 c.args.late -ℤ pos 2147483648)
fits c = subst (SFits w64) (sym (difference c)) (sfits_widen tt (small c))

back : (c : goal.Start) → to_z w64 (of_z w64 (to_z w64 c.args.late -ℤ pos 2147483648)) ≡ lowered c.args.late
back c = to_z-of_z w64 _ (fits c) ∙ difference c

pub overflow_sub-result : goal.overflow_sub-result
overflow_sub-result c = fits c

pub overflow_cast-result-2 : goal.overflow_cast-result-2
overflow_cast-result-2 c = subst (SFits w32) (sym (back c)) (small c)

pub returns : goal.returns
returns c = ap (λ (z : ℤ). to_z w32 (of_z w32 z)) (back c) ∙ to_z-of_z w32 _ (small c)
