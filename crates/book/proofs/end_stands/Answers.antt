-- `end_stands` meets its contract: the end word stands where the definition has it.
-- Assumes nothing.
use Prim.Native.Nat.{◌≤◌}
use native.Mathlib.Omega.{arith}
use lib.ListN.{length}
use borrow.Author.Tests.{le-ltb, lt-ltb}
use Rattle.book.specs.Rows.{end_stands}
use Rattle.book.proofs.end_stands.Goals as goal
use Rattle.book.proofs.end_stands.Goals.{then-count-gt0, else-count-gt0}

pub returns-then-rest-gt0 : goal.returns-then-rest-gt0
unfolding end_stands
returns-then-rest-gt0 c = rw (lt-ltb _ _ c.if-rest-gt0.true.0, lt-ltb _ _ c.if-rest-gt0.true.1) (cc)

pub returns-else-rest-gt0 : goal.returns-else-rest-gt0
unfolding end_stands
returns-else-rest-gt0 c = elim c.if-count-gt0.branch [
  | then-count-gt0 w ↦
      let none : length c.args.rest.now ≤ 0 = omega (arith, c.if-rest-gt0.either) in
      rw (w.t-4-is, lt-ltb _ _ w.if-count-gt0.true, le-ltb _ _ none)
  | else-count-gt0 w ↦ rw (w.t-4-is, le-ltb _ _ w.if-count-gt0.false)
]
