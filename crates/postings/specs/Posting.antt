-- Postings: an order posted by hand, as a list of row numbers, and the test that it is one.
-- Rests on: the refusals, the schedule's Rows.
use Rattle.std.specs.Prelude.{ℕ, ◌+◌, min, not, ◌||◌, List, [], ◌∷◌, ltb, eqb, length, Ok}
use Rattle.refusals.specs.Tests.{Tested}
use Rattle.refusals.specs.Refusals.{by_not_posting}
use Rattle.refusals.specs.Tests.{refuse_if, ◌then◌}
use Rattle.schedule.specs.Rows.{stands}

-- The first entry that is no row of n, or came before. `seen` came before, `place` is that of the first entry of the list.
unfoldable pub entry_tests : (n : ℕ) (seen : List ℕ) (place : ℕ) → List ℕ → Tested
entry_tests n seen place [] = Ok tt
entry_tests n seen place (i ∷ is) =
    refuse_if (eqb i 0 || ltb n i || stands i seen) by_not_posting place then entry_tests n (i ∷ seen) (place + 1) is

-- 10, not a posting: a wrong length first, with the smaller of length and row count as place; otherwise the first such entry.
unfoldable pub posting_tests : ℕ → List ℕ → Tested
posting_tests n posting =
    refuse_if (not (eqb (length posting) n)) by_not_posting (min (length posting) n) then entry_tests n [] 0 posting

-- Opens every definition of this file: name it on an `unfolding` line where all is to be computed.
unfoldable pub open_posting : Unit {0}
unfolding stands entry_tests posting_tests
open_posting = tt
