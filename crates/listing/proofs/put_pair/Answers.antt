-- `put_pair` meets its contract: it puts the pair at its place.
-- Assumes nothing.
use Prim.Native.Nat.{ℕ, ◌+◌}
use mathlib.Core.Path.{ap}
use native.Mathlib.Omega.{arith}
use lib.ListN.{set}
use Rattle.listing.proofs.put_pair.Goals as goal

pub offset_bounds-ends-k : goal.offset_bounds-ends-k
offset_bounds-ends-k c = omega (arith, c.pair_place-k.ensures, c.requires.1)

pub bounds-ends-k : goal.bounds-ends-k
bounds-ends-k c = omega (arith, c.pair_place-k.ensures, c.requires.1)

pub offset_bounds-lates-k : goal.offset_bounds-lates-k
offset_bounds-lates-k c = omega (arith, c.pair_place-k.ensures, c.requires.1)

pub bounds-lates-k : goal.bounds-lates-k
bounds-lates-k c = omega (arith, c.pair_place-k.ensures, c.requires.1)

pub overflow_add-result : goal.overflow_add-result
overflow_add-result c = omega (arith, c.pair_place-k.ensures, c.requires.1)

pub returns : goal.returns
returns c =
    let a = c.args in
    ap (λ (k : ℕ). record { count = k + 1; ends = set a.ends.now k a.end; lates = set a.lates.now k a.late })
    c.pair_place-k.ensures
