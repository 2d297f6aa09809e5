-- `write_orders` meets its contract: each turn writes the order of one desk more.
-- Assumes nothing.
use Rattle.several_orders.proofs.Writing.{WrittenTo}
use Rattle.several_orders.proofs.write_orders.Given as goal

abbrev pub invariant-loop-d : goal.invariant-loop-d
invariant-loop-d l =
    WrittenTo l.free l.rows l.plans l.columns l.fronts l.bound l.desks l.initial.res l.res l.at l.d
