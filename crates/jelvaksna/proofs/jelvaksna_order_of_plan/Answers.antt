-- `jelvaksna_order_of_plan` meets its contract: the call's, through the answer's fields.
-- Assumes nothing.
use Rattle.calls.specs.Answers.{said_order}
use Rattle.jelvaksna.proofs.Through.{through}
use Rattle.jelvaksna.proofs.jelvaksna_order_of_plan.Goals as goal

pub returns : goal.returns
returns c = let p = through said_order _ _ _ c.of_order.ensures c.order_of_plan.ensures in record { value = p.0; res_after = p.1 }
