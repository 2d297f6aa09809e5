-- `next_line` meets its contract: each turn takes a line, so lines are no more than bytes, with one over.
-- Assumes nothing.
use Rattle.std.proofs.Common.{length, ◌+◌, ◌-◌, ◌≤◌}
use Rattle.text_days.proofs.next_line.Given as goal

abbrev pub invariant-loop-place : goal.invariant-loop-place
invariant-loop-place l = (l.place.at ≤ length l.text + 1) × (l.place.line ≤ l.place.at + 1)

abbrev pub decreases-loop-place : goal.decreases-loop-place
decreases-loop-place l = length l.text - l.place.at
