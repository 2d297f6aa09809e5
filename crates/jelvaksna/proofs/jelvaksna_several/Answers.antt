-- `jelvaksna_several` meets its contract: the call's, through the answer's fields.
-- Assumes nothing.
use Rattle.answers.specs.Boundary.{answer_of_desks}
use Rattle.several.specs.Answers.{said_several}
use Rattle.jelvaksna.proofs.Through.{through_fields}
use Rattle.jelvaksna.proofs.jelvaksna_several.Goals as goal

pub returns : goal.returns
returns c =
    let p = through_fields (λ x. answer_of_desks (said_several x)) _ _ _ c.of_several.ensures c.several.ensures in
    record { value = p.0; res_after = p.1 }
