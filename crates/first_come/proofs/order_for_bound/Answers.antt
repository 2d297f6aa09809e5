-- `order_for_bound` meets its contract: a signed number that is passed on is itself.
-- Assumes nothing.
use mir.Syntax.{w32}
use mir.ValLaws.{to_z-of_z}
use mathlib.Core.Path.{ap, ◌∙◌}
use lib.IntN.{ℤ}
use Rattle.calls.specs.Calls.{bound_call}
use Rattle.readers.specs.Reads.{first_come}
use Rattle.first_come.proofs.order_for_bound.Goals as goal

pub returns : goal.returns
returns c =
    let a = c.args in
    c.order_for_bound.ensures ∙ ap (λ (y : ℤ). bound_call (first_come a.opening) a.book.now y a.res.now)
    (to_z-of_z w32 a.bound c.ranges.bound)
