-- A set of numbers below 320 as the bits of five words: number j is bit j % 64 of word j / 64.
-- Rests on: nothing.
use Rattle.std.specs.Prelude.{ℕ, zero, suc, ◌+◌, ◌*◌, ◌<◌, Bool, true, false, cond, ◌≡◌, List, eqb, length, get_or}

-- A set p is a test: number j is in it where p j is true. In a word a number that is in the set is a bit 1.
abbrev pub bit : Bool → ℕ
bit true = 1
bit false = 0

-- The word of the m numbers from i on, the bit of the least number lowest.
unfoldable pub word : (ℕ → Bool) → ℕ → ℕ → ℕ
word p i zero = 0
word p i (suc m) = bit (p i) + 2 * word p (suc i) m

-- The set p with k put in or taken out, as b says.
abbrev pub mark : ℕ → Bool → (ℕ → Bool) → ℕ → Bool
mark k b p j = cond (eqb j k) b (p j)

-- The five words ws hold the numbers below 320 of the set p.
pub record Words (p : ℕ → Bool) (ws : List ℕ) : Type 0 where
  pub size : length ws ≡ 5
  pub each : (q : ℕ) → q < 5 → get_or ws q 0 ≡ word p (64 * q) 64

-- r is the least number below 320 of the set p; 0, which the set is without, where there is none.
pub record Least (p : ℕ → Bool) (r : ℕ) : Type 0 where
  pub below : r < 320
  pub none : r ≡ 0 → (j : ℕ) → j < 320 → p j ≡ false
  pub some : (r ≡ 0 → ⊥) → (p r ≡ true) × ((j : ℕ) → j < r → p j ≡ false)
