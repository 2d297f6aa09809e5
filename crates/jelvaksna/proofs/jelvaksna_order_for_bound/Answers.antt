-- `jelvaksna_order_for_bound` meets its contract: the call's, through the answer's fields.
-- Assumes nothing.
use lib.IntN.{ℤ}
use mir.Syntax.{w32}
use mir.ValLaws.{to_z-of_z}
use mathlib.Core.Path.{ap, ◌∙◌}
use Rattle.calls.specs.Calls.{bound_call}
use Rattle.readers.specs.Reads.{ordering_rule}
use Rattle.calls.specs.Answers.{said_order}
use Rattle.jelvaksna.proofs.Through.{through}
use Rattle.jelvaksna.proofs.jelvaksna_order_for_bound.Goals as goal

pub returns : goal.returns
returns c =
    let a = c.args in
    let p = through said_order _ _ _ c.of_order.ensures
    (c.order_for_bound.ensures ∙ ap (λ (y : ℤ). bound_call (ordering_rule a.opening) a.book.now y a.res.now)
    (to_z-of_z w32 a.bound c.ranges.bound)) in
    record { value = p.0; res_after = p.1 }
