-- `place_among` meets its contract: the place of a row that the day has, or the refusal.
-- Assumes nothing.
use mathlib.Core.Bool.{true, ◌||◌}
use mathlib.Core.Path.{◌≡◌}
use lib.Dec.{eqb, ltb}
use borrow.Author.Tests.{le-ltb, lt-ltb, eq-eqb, ne_eqb}
use Rattle.row_calls.proofs.Places.{place_unlisted, place_listed}
use Rattle.row_calls.proofs.place_among.Goals as goal
use Rattle.row_calls.proofs.place_among.Goals.{then-k-eq0-via-then-k-eq0, then-k-eq0-via-else-k-eq0+then-count-k}

pub returns-then-k-eq0 : goal.returns-then-k-eq0
returns-then-k-eq0 c day f =
    let a = c.args in
    let unlisted : (eqb a.row 0 || ltb a.count a.row) ≡ true = elim c.then-k-eq0.branch [
      | then-k-eq0-via-then-k-eq0 w ↦ rw (eq-eqb _ _ w.if-k-eq0.true)
      | then-k-eq0-via-else-k-eq0+then-count-k w ↦ rw (ne_eqb _ _ w.if-k-eq0.false, lt-ltb _ _ w.if-count-k.true)
    ] in
    place_unlisted a.count day f a.row unlisted

pub returns : goal.returns
returns c day f =
    let a = c.args in
    place_listed a.count day f a.row (rw (ne_eqb _ _ c.if-k-eq0.false, le-ltb _ _ c.if-count-k.false))
