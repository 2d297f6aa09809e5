-- The words of an input of bytes, and its odd bytes.
-- Rests on: nothing.
use Rattle.std.specs.Prelude.{ℕ, zero, suc, ◌+◌, ◌*◌, ◌%◌, ◌≤◌, Bool, not, ◌&&◌, ◌≡◌, List, [], ◌∷◌, ltb, eqb, length, take, get_or}

-- The little-endian word whose first byte stands at a place.
abbrev pub word_at : List ℕ → ℕ → ℕ
word_at bytes at = get_or bytes at 0 + 256 * get_or bytes (at + 1) 0 + 65536 * get_or bytes (at + 2) 0 + 16777216 * get_or bytes (at + 3) 0

-- The whole words at the start of an input, n at most.
unfoldable pub words_in : ℕ → List ℕ → List ℕ
words_in zero bytes = []
words_in (suc n) [] = []
words_in (suc n) (a ∷ []) = []
words_in (suc n) (a ∷ b ∷ []) = []
words_in (suc n) (a ∷ b ∷ c ∷ []) = []
words_in (suc n) (a ∷ b ∷ c ∷ d ∷ bytes) = (a + 256 * b + 65536 * c + 16777216 * d) ∷ words_in n bytes

-- The input ends before 1,028 words are in, with 1 to 3 odd bytes.
abbrev pub odd : List ℕ → Bool
odd input = ltb (length input) 4112 && not (eqb (length input % 4) 0)

-- The first n places of a buffer hold a list of n numbers.
pub record Counted (n : ℕ) (buffer list : List ℕ) : Type 0 where
  pub few : n ≤ length buffer
  pub size : n ≡ length (take n buffer)
  pub holds : take n buffer ≡ list
