-- `jelvaksna_desk_pace` meets its contract: the call's, through the answer's fields.
-- Assumes nothing.
use Rattle.open_desk.specs.Answers.{said_pace}
use Rattle.jelvaksna.proofs.Through.{through}
use Rattle.jelvaksna.proofs.jelvaksna_desk_pace.Goals as goal

pub returns : goal.returns
returns c = let p = through said_pace _ _ _ c.of_pace.ensures c.change_pace.ensures in record { value = p.0; desk_after = p.1 }
