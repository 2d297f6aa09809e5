-- Words written as bytes, by the word that a reader finds at a place.
-- Rests on: Input of `input`.
use Rattle.std.specs.Prelude.{ℕ, ◌+◌, ◌*◌, ◌≤◌, ◌<◌, ◌≡◌, List, length, take, get_or}
use Rattle.input.specs.Input.{word_at}

-- A word is put at a place, and the bytes before it stay.
pub record Put (at word : ℕ) (before after : List ℕ) : Type 0 where
  pub room : length after ≡ length before
  pub holds : word_at after at ≡ word
  pub kept : (i : ℕ) → i < at → get_or after i 0 ≡ get_or before i 0

-- Words are put from a place on, up to the place r, and the bytes before them stay.
pub record Written (r at : ℕ) (words before after : List ℕ) : Type 0 where
  pub few : r ≤ length after
  pub size : r ≡ length (take r after)
  pub end : r ≡ at + 4 * length words
  pub room : length after ≡ length before
  pub each : (k : ℕ) → k < length words → word_at after (at + 4 * k) ≡ get_or words k 0
  pub kept : (i : ℕ) → i < at → get_or after i 0 ≡ get_or before i 0
