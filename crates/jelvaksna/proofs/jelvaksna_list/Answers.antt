-- `jelvaksna_list` meets its contract: the call's, through the answer's fields.
-- Assumes nothing.
use Rattle.calls.specs.Answers.{said_list}
use Rattle.jelvaksna.proofs.Through.{through}
use Rattle.jelvaksna.proofs.jelvaksna_list.Goals as goal

pub returns : goal.returns
returns c = let p = through said_list _ _ _ c.of_list.ensures c.list.ensures in record { value = p.0; res_after = p.1 }
