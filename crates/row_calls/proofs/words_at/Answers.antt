-- `words_at` meets its contract: the four words at the place, or no word.
-- Assumes nothing.
use Prim.Native.Nat.{◌+◌, ◌-◌}
use native.Mathlib.Omega.{arith}
use mathlib.Core.Path.{◌≡◌}
use Rattle.row_calls.proofs.Places.{words_found, words_refused}
use Rattle.row_calls.proofs.words_at.Goals as goal

pub returns-in-Ok : goal.returns-in-Ok
returns-in-Ok c =
    let s = c.args in
    let a = c.in-Ok.start in
    let four : a + 4 - a ≡ 4 = omega arith in
    rw four (words_found s.book.now s.found a c.in-Ok.is)

pub returns-in-Err : goal.returns-in-Err
returns-in-Err c = let s = c.args in words_refused s.book.now s.found c.in-Err.field-0 c.in-Err.is
