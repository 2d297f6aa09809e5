-- What a word of a line says as a number: decimal digits and nothing else, and small enough for the value of a book's word.
-- Assumes nothing.
use Rattle.std.specs.Prelude.{ℕ, ◌+◌, ◌-◌, ◌*◌, Bool, true, false, ◌&&◌, List, [], ◌∷◌, leb, ltb, Result, Ok, Err}
use Rattle.text_words.specs.declared.Wrong.{Wrong}
use Rattle.text_words.specs.declared.Wrong.TheVariants.{Missing, Strange, Large}

-- A number, or what is wrong with its word: it is missing, has more than digits, or is too large.
abbrev pub Number : Type 0
Number = Result ℕ Wrong

-- The bytes of the digits 0 to 9.
abbrev pub is_digit : ℕ → Bool
is_digit b = leb 48 b && leb b 57

unfoldable pub all_digits : List ℕ → Bool
all_digits [] = true
all_digits (b ∷ bs) = is_digit b && all_digits bs

-- The number that the digits bs give after the digits of v.
unfoldable pub decimal : ℕ → List ℕ → ℕ
decimal v [] = v
decimal v (b ∷ bs) = decimal (10 * v + (b - 48)) bs

-- Values have 29 bits.
abbrev pub sized : ℕ → Number
sized v = elim (ltb v 536870912) [
  | true ↦ Ok v
  | false ↦ Err Large
]

unfoldable pub number_of : List ℕ → Number
number_of [] = Err Missing
number_of (b ∷ bs) = elim (all_digits (b ∷ bs)) [
  | true ↦ sized (decimal 0 (b ∷ bs))
  | false ↦ Err Strange
]
