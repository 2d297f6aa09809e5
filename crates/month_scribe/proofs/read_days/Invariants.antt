-- `read_days` meets its contract: each day takes at most 5,144 bytes.
-- Assumes nothing.
use Rattle.std.proofs.Common.{◌≡◌, ◌+◌, ◌*◌, ◌≤◌, length}
use Rattle.month_scribe.proofs.read_days.Given as goal

abbrev pub invariant-loop-days : goal.invariant-loop-days
invariant-loop-days l =
    (l.month.size ≤ 5144 * l.days) × (length l.sheet ≡ 159588) × (l.month.place.at ≤ length l.text + 1) × (l.month.place.line ≤ l.month.place.at + 1)
