-- `read_lines` meets its contract: each turn takes a line, so lines are no more than bytes, with one over.
-- Assumes nothing.
use Rattle.std.proofs.Common.{length, ◌+◌, ◌-◌, ◌≤◌}
use Rattle.text_days.proofs.Day.read_lines.Given as goal

abbrev pub invariant-loop-self : goal.invariant-loop-self
invariant-loop-self l = (l.self.place.at ≤ length l.text + 1) × (l.self.place.line ≤ l.self.place.at + 1)

abbrev pub decreases-loop-self : goal.decreases-loop-self
decreases-loop-self l = length l.text - l.self.place.at
