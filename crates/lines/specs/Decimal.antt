-- A number as it is printed, in ASCII.
-- Rests on: nothing.
use Rattle.std.specs.Prelude.{ℕ, zero, suc, ◌+◌, ◌/◌, ◌%◌, true, false, List, [], ◌∷◌, ◌++◌, ltb}

-- The decimal digits of n, the fewest that hold it, found in so many steps. The digit 0 is 48.
unfoldable pub digits_in : ℕ → ℕ → List ℕ
digits_in zero n = []
digits_in (suc steps) n = elim (ltb n 10) [
  | true ↦ (48 + n) ∷ []
  | false ↦ digits_in steps (n / 10) ++ ((48 + n % 10) ∷ [])
]

unfoldable pub decimal : ℕ → List ℕ
decimal n = digits_in (suc n) n

-- Opens every definition of this file: name it on an `unfolding` line where all is to be computed.
unfoldable pub open_decimal : Unit {0}
unfolding digits_in decimal
open_decimal = tt
