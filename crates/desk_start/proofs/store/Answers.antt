-- `store` meets its contract.
-- Assumes nothing.
use borrow.Author.Rules.{rules}
use lib.ListN.{length-set}
use Rattle.desk_start.proofs.store.Goals as goal

pub bounds-desk-2 : goal.bounds-desk-2
bounds-desk-2 c = simp length-set (search rules)

pub bounds-desk-i : goal.bounds-desk-i
bounds-desk-i c = simp length-set (search rules)
