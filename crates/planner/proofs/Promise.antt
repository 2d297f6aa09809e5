-- The three properties (promises/specs/Promise) of the calls by the ordering rule hold, and so does what is promised of a later start
-- (promises/specs/LaterStart).
--
-- The contract of each offered function says that its answer and its buffer at exit are those of its call (list, order_for_bound,
-- order_of_plan, verdict: Calls; row_place, row_words: Places of row_calls) by these terms, whatever it is lent and told. So what the
-- properties say of the calls, with whatever opening minutes, holds of the functions. Assumes nothing.
use Prim.Native.Nat.{ℕ}
use mathlib.Core.List.{List}
use Rattle.promises.specs.Promise.{Property1, Property2, Property3}
use Rattle.promises.specs.LaterStart.{LaterStartHolds}
use Rattle.promises.proofs.Promise as of_calls
use Rattle.promises.proofs.LaterStart as later_start
use Rattle.readers.specs.Reads.{ordering_rule}

pub lent_memory : (opening : ℕ) → Property1 (ordering_rule opening)
lent_memory opening = of_calls.lent_memory (ordering_rule opening)

pub definitions_hold : (opening : ℕ) → Property2 (ordering_rule opening)
definitions_hold opening = of_calls.definitions_hold (ordering_rule opening)

pub cover_holds : (opening : ℕ) → Property3 (ordering_rule opening)
cover_holds opening = of_calls.cover_holds (ordering_rule opening)

pub later_start_holds : (opening : ℕ) (rest : List ℕ) → LaterStartHolds (ordering_rule opening) rest
later_start_holds opening = later_start.later_start_holds (ordering_rule opening)
