-- Bytes added to a sheet.
-- Rests on: nothing.
use Rattle.std.specs.Prelude.{ℕ, ◌+◌, ◌≤◌, ◌≡◌, List, ◌++◌, length, take}

-- A sheet that has `at` bytes is given others, at most so many: it then has r, and those before them stay.
pub record Added (r at most : ℕ) (before bytes after : List ℕ) : Type 0 where
  pub few : r ≤ at + most
  pub room : length after ≡ length before
  pub size : r ≡ length (take r after)
  pub holds : take r after ≡ take at before ++ bytes
