-- The window has so many bytes, the totals fit, and the sheet is as long as it was.
use Rattle.std.proofs.Common.{◌≡◌, ◌≤◌, length}
use Rattle.totals.specs.Held.{days, SumsFit}
use Rattle.month.proofs.take_days.Given as goal

abbrev pub invariant-loop : goal.invariant-loop
invariant-loop g l =
    (l.have ≤ length l.window) × (length l.window ≡ length l.initial.window) × (length l.sheet ≡ length l.initial.sheet) × SumsFit l.totals ×
    (days l.totals ≤ 31)
