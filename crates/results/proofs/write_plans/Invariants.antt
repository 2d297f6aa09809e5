-- `write_plans` meets its contract. The invariant: the words of the plans passed so far stand at the buffer's front.
-- Assumes nothing.
use mathlib.Core.Path.{◌≡◌}
use lib.ListN.{length}
use Rattle.results.specs.Results.{written}
use Rattle.results.proofs.ResultWords.{words_to}
use Rattle.results.proofs.write_plans.Given as goal

abbrev pub invariant-loop-k : goal.invariant-loop-k
invariant-loop-k l = (length l.res ≡ length l.initial.res) × (l.res ≡ written (words_to l.ends l.lates l.k) l.initial.res)
