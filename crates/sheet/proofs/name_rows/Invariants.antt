-- The rows passed have their numbers in their places.
use Rattle.std.proofs.Common.{get_or}
use Rattle.sheet.proofs.Naming.{Named}
use Rattle.sheet.proofs.name_rows.Given as goal

abbrev pub invariant-loop-row : goal.invariant-loop-row
invariant-loop-row l = Named (λ i. get_or l.numbers i 0) l.row-index l.order l.initial.order
