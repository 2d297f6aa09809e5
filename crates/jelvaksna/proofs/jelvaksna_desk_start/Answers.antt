-- `jelvaksna_desk_start` meets its contract: the call's, through the answer's fields.
-- Assumes nothing.
use Rattle.open_desk.specs.Answers.{said_start}
use Rattle.jelvaksna.proofs.Through.{through}
use Rattle.jelvaksna.proofs.jelvaksna_desk_start.Goals as goal

pub returns : goal.returns
returns c = let p = through said_start _ _ _ c.of_start.ensures c.start.ensures in record { value = p.0; desk_after = p.1 }
