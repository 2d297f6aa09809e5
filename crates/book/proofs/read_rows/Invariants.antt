-- `read_rows` meets its contract: each turn of the loop is one step of `read_rows`, with the rest of the book as a part of its own.
-- Assumes nothing.
use Prim.Native.Nat.{◌≤◌, ◌-◌}
use lib.ListN.{length, drop}
use Rattle.book.proofs.Reached.{Reached}
use Rattle.book.proofs.read_rows.Given as goal

abbrev pub invariant-loop-numbers : goal.invariant-loop-numbers
invariant-loop-numbers l =
    (l.at ≤ length l.book) × Reached l.free l.pace (drop 2 l.book) (record { free = l.free; count = l.count; rows = l.rows }) l.numbers l.at (drop l.at l.book)

abbrev pub decreases-loop-numbers : goal.decreases-loop-numbers
decreases-loop-numbers l = length l.book - l.at
