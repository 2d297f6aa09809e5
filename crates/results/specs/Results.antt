-- The words of a result buffer: plans and orders written from its start on, and the plans read back from it.
-- Rests on: the schedule's pairs.
use Rattle.std.specs.Prelude.{ℕ, zero, suc, ◌-◌, cond, List, [], ◌∷◌, ◌++◌, ltb, length, drop, ℤ, pos, negsuc}
use Rattle.std.proofs.Math.Option.{Option, none, some}
use Rattle.schedule.specs.Desk.{Pair}

-- A buffer with words written from its start on; its further words hold what they held.
unfoldable pub written : List ℕ → List ℕ → List ℕ
written ws b = ws ++ drop (length ws) b

-- A signed number in two's complement of 32 bits, and the number that stands so.
unfoldable pub complement : ℤ → ℕ
complement (pos n) = n
complement (negsuc n) = 4294967295 - n

unfoldable pub signed : ℕ → ℤ
signed w = cond (ltb w 2147483648) (pos w) (negsuc (4294967295 - w))

-- The words of a list: end and worst lateness for each plan.
unfoldable pub plan_words : List Pair → List ℕ
plan_words [] = []
plan_words (p ∷ ps) = p.end ∷ complement p.late ∷ plan_words ps

-- The plans that stand in a buffer, k of them.
unfoldable pub plans_in : ℕ → List ℕ → List Pair
plans_in zero ws = []
plans_in (suc k) [] = []
plans_in (suc k) (e ∷ []) = []
plans_in (suc k) (e ∷ w ∷ ws) = record { end = e; late = signed w } ∷ plans_in k ws

-- A plan's number as the code gives it: 0 where there is none.
abbrev pub or_zero : Option ℕ → ℕ
or_zero none = 0
or_zero (some k) = k

-- Opens every definition of this file: name it on an `unfolding` line where all is to be computed.
unfoldable pub open_results : Unit {0}
unfolding written complement signed plan_words plans_in
open_results = tt
