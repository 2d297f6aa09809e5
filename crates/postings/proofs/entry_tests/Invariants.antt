-- `entry_tests` meets its contract. The invariant: the marks are those of the entries passed, and what the tests say from here on is what
-- they say from the first entry on. Assumes nothing.
use Prim.Native.Nat.{ℕ}
use mathlib.Core.Path.{◌≡◌}
use mathlib.Core.List.{List, []}
use lib.ListN.{length, drop}
use Rattle.schedule.specs.Limits.{row_places}
use Rattle.postings.specs.Posting.{entry_tests}
use Rattle.postings.proofs.Entries.{Marks}
use Rattle.postings.proofs.entry_tests.Given as goal

abbrev pub invariant-loop-k : goal.invariant-loop-k
invariant-loop-k l = (length l.seen ≡ row_places) ×
    ((s : List ℕ) × Marks l.seen s × (entry_tests l.n [] 0 l.posting ≡ entry_tests l.n s l.k (drop l.k l.posting)))
