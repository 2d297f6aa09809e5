-- `picks::lowest` meets its contract. The loop's invariant: the words before q hold nothing.
-- Assumes nothing.
use Prim.Native.Nat.{ℕ, ◌*◌, ◌≤◌, ◌<◌}
use mathlib.Core.Bool.{Bool}
use mathlib.Core.Path.{◌≡◌}
use lib.ListN.{get_or}
use Rattle.picks.specs.Bits.{word}
use Rattle.picks.proofs.Sets.{Clear}
use Rattle.picks.proofs.lowest.Given as goal

abbrev pub invariant-loop-q : goal.invariant-loop-q
invariant-loop-q l = (p : ℕ → Bool) → ((q : ℕ) → l.from ≤ q → q < 5 → get_or l.ready q 0 ≡ word p (64 * q) 64) → Clear p l.from → Clear p l.q
