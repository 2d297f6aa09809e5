-- `jelvaksna_row_place` meets its contract: the call's, through the answer's fields.
-- Assumes nothing.
use mathlib.Core.Path.{ap, ◌∙◌}
use Rattle.row_calls.specs.Places.{RowPlace}
use Rattle.calls.specs.Answers.{said_place}
use Rattle.answers.specs.Boundary.{answer_of}
use Rattle.jelvaksna.proofs.jelvaksna_row_place.Goals as goal

pub returns : goal.returns
returns c = c.of_place.ensures ∙ ap (λ (a : RowPlace). answer_of (said_place a)) c.row_place.ensures
