-- `pair_place` meets its contract: it gives the place of the last pair where both have one end, otherwise the place after it.
-- Assumes nothing.
use mathlib.Core.Path.{◌≡◌, ◌∙◌}
use native.Mathlib.Omega.{arith}
use Rattle.listing.proofs.Lists.{place_none, place_same, place_next}
use Rattle.listing.proofs.pair_place.Goals as goal
use Rattle.listing.proofs.pair_place.Goals.{else-count-gt0-via-then-count-gt0+else-ends-count, else-count-gt0-via-else-count-gt0}

pub returns-then-ends-count : goal.returns-then-ends-count
returns-then-ends-count c =
    let a = c.args in
    place_same a.ends.now a.count a.end (λ e. omega arith) c.if-ends-count.true

pub returns-else-count-gt0 : goal.returns-else-count-gt0
returns-else-count-gt0 c =
    let a = c.args in
    elim c.else-count-gt0.branch [
      | else-count-gt0-via-then-count-gt0+else-ends-count w ↦
          place_next a.ends.now a.count a.end (λ e. omega (arith, w.if-count-gt0.true)) w.if-ends-count.false
      | else-count-gt0-via-else-count-gt0 w ↦
          let none : a.count ≡ 0 = omega (arith, w.if-count-gt0.false) in
          none ∙ place_none a.ends.now a.count a.end none
    ]
