-- `raise` meets its contract: the sum fits, and is the number raised by 2³¹.
-- Assumes nothing.
use mathlib.Core.Path.{◌≡◌, ap, sym, subst, ◌∙◌}
use native.Mathlib.Omega.{arith}
use lib.Dec.{T}
use lib.IntN.{ℤ, pos, nat_abs, ◌+ℤ◌}
use lib.Signed.{non_neg}
use mir.Syntax.{w32, w64}
use mir.Val.{SFits, Fits, to_z, of_z}
use mir.ValLaws.{to_z-of_z}
use Rattle.schedule.specs.Offset.{raised}
use Rattle.schedule.proofs.SignedWords.{widened, widens, raised_is, raised_fits}
use Rattle.schedule.proofs.raise.Goals as goal

sum : (c : goal.Start) → to_z w64 (of_z w64 (to_z w32 (of_z w32 c.args.y))) +ℤ pos 2147483648 ≡ pos (raised c.args.y)
sum c = ap (λ (z : ℤ). z +ℤ pos 2147483648) (widened c.args.y c.ranges.y) ∙ raised_is c.args.y c.ranges.y

adds : (c : goal.Start) → SFits w64 (to_z w64 (of_z w64 (to_z w32 (of_z w32 c.args.y))) +ℤ pos 2147483648)
adds c = subst (SFits w64) (sym (sum c)) (record { sfits = omega (arith, raised_fits c.args.y c.ranges.y) })

back : (c : goal.Start) → to_z w64 (of_z w64 (to_z w64 (of_z w64 (to_z w32 (of_z w32 c.args.y))) +ℤ pos 2147483648)) ≡ pos
    (raised c.args.y)
back c = to_z-of_z w64 _ (adds c) ∙ sum c

pub overflow_cast-result : goal.overflow_cast-result
overflow_cast-result c = widens c.args.y c.ranges.y

pub overflow_add-result : goal.overflow_add-result
overflow_add-result c = adds c

pub overflow_cast-result-2 : goal.overflow_cast-result-2
overflow_cast-result-2 c = subst (λ (z : ℤ). T (non_neg z) × Fits w32 (nat_abs z)) (sym (back c))
    (tt, record { fits = omega (arith, raised_fits c.args.y c.ranges.y) })

pub returns : goal.returns
returns c = ap nat_abs (back c)
