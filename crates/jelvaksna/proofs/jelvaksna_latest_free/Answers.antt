-- `jelvaksna_latest_free` meets its contract: the call's, through the answer's fields.
-- Assumes nothing.
use mir.Syntax.{w32}
use mir.ValLaws.{to_z-of_z}
use mathlib.Core.Path.{◌∙◌}
use Rattle.latest_free.specs.Calls.{latest_call}
use Rattle.latest_free.specs.Answers.{said_latest}
use Rattle.jelvaksna.proofs.Through.{through}
use Rattle.jelvaksna.proofs.jelvaksna_latest_free.Goals as goal

pub returns : goal.returns
returns c =
    let a = c.args in
    let p = through said_latest _ _ _ c.of_latest.ensures
    (c.latest_free.ensures ∙ (λ i. latest_call a.opening a.book.now (to_z-of_z w32 a.end c.ranges.end i)
    (to_z-of_z w32 a.late c.ranges.late i) a.res.now)) in
    record { value = p.0; res_after = p.1 }
