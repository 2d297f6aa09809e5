-- `block_on` meets its contract: the row, then the run from there.
-- Assumes nothing.
use native.Mathlib.Omega.{arith}
use lib.ListN.{length-set}
use Rattle.search.proofs.Picked.{row_high, room}
use Rattle.search.proofs.Steps.{block_ran}
use Rattle.search.proofs.block_on.Goals as goal

pub overflow_cast-order : goal.overflow_cast-order
overflow_cast-order c =
    record { fits = omega (arith, row_high _ _ _ c.requires.tables _ _ c.requires.by_index.0.1 _ c.requires.by_index.0.2) }

pub offset_bounds-order-k : goal.offset_bounds-order-k
offset_bounds-order-k c =
    record { fits = omega (arith, room _ _ _ c.requires.tables _ _ c.requires.by_index.0.1 _ c.requires.by_index.0.2) }

pub bounds-order-k : goal.bounds-order-k
bounds-order-k c =
    room _ _ _ c.requires.tables _ _ c.requires.by_index.0.1 _ c.requires.by_index.0.2

pub take-m-requires : goal.take-m-requires
take-m-requires c = record { limits = c.requires.limits; tables = (c.requires.tables, (_, _, c.requires.by_index.0.1, c.requires.by_index.0.2)) }

pub run_on-requires : goal.run_on-requires
run_on-requires c = record { limits = c.requires.limits; tables = c.requires.tables; by_index = ((_, (c.take-m.ensures _ _ c.requires.by_index.0.1 c.requires.by_index.0.2).sits), simp length-set c.requires.by_index.1) }

pub returns : goal.returns
returns c = λ rest g m.
    let t = c.take-m.ensures rest _ g m in
    block_ran _ _ _ c.requires.limits rest _ _ _ _ t (room _ _ _ c.requires.tables _ _ g _ m) c.requires.by_index.1 _ _ _ (c.run_on.ensures _ t.sits)
