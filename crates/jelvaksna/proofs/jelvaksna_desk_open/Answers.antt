-- `jelvaksna_desk_open` meets its contract: the call's, through the answer's fields.
-- Assumes nothing.
use Rattle.open_desk.specs.Answers.{said_open}
use Rattle.jelvaksna.proofs.Through.{through}
use Rattle.jelvaksna.proofs.jelvaksna_desk_open.Goals as goal

pub returns : goal.returns
returns c = let p = through said_open _ _ _ c.of_open.ensures c.open.ensures in record { value = p.0; desk_after = p.1 }
