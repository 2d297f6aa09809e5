-- The days of a month's input, in bytes.
-- Rests on: Input of `input`.
use Rattle.std.specs.Prelude.{ℕ, ◌+◌, ◌*◌, ◌<◌, ◌≡◌, List, length, get_or}
use Rattle.input.specs.Input.{word_at}

-- At a place the length of a list, and its words behind it.
pub record ListAt (at : ℕ) (words bytes : List ℕ) : Type 0 where
  pub count : word_at bytes at ≡ length words
  pub each : (k : ℕ) → k < length words → word_at bytes (at + 4 + 4 * k) ≡ get_or words k 0

-- A list is put at a place, up to the place r, and the bytes before it stay.
pub record PutList (r at : ℕ) (words before after : List ℕ) : Type 0 where
  pub end : r ≡ at + 4 + 4 * length words
  pub room : length after ≡ length before
  pub list : ListAt at words after
  pub kept : (i : ℕ) → i < at → get_or after i 0 ≡ get_or before i 0

-- A day is put at a place, up to the place r: its book, then its posting. The bytes before it stay.
pub record PutDay (r at : ℕ) (book posting before after : List ℕ) : Type 0 where
  pub end : r ≡ at + 8 + 4 * (length book + length posting)
  pub room : length after ≡ length before
  pub first : ListAt at book after
  pub second : ListAt (at + 4 + 4 * length book) posting after
  pub kept : (i : ℕ) → i < at → get_or after i 0 ≡ get_or before i 0
