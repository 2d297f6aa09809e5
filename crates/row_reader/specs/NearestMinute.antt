-- The length of a row is its reading time to the nearest minute. The proof is `nearest_minute`, in proofs/NearestMinute.antt.
-- Rests on: the limits.
use Rattle.std.specs.Prelude.{ℕ, ◌+◌, ◌-◌, ◌*◌, ◌/◌, ◌≤◌, ◌≡◌}
use Rattle.schedule.specs.Limits.{longest_length, most_pages, least_pace, most_pace}

-- Length: the reading time, pages × 60 divided by pace, to the nearest minute, an exact half going up: half a minute is added, and the part
-- of a minute that is then over dropped. That this is the nearest minute is `NearestMinute`.
abbrev pub length_of : (pages pace : ℕ) → ℕ
length_of pages pace = (2 * (pages * 60) + pace) / (2 * pace)

-- How far so many minutes are from the reading time, in parts of a minute of which there are `pace`: n minutes have n × pace of them, the
-- reading time pages × 60. (A difference below 0 is 0: one of the two is.)
abbrev pub distance : (pages pace n : ℕ) → ℕ
distance pages pace n = (n * pace - pages * 60) + (pages * 60 - n * pace)

pub record Nearest (pages pace : ℕ) : Type 0 where
  -- No whole number of minutes is nearer to the reading time than the length ..
  pub nearest : (n : ℕ) → distance pages pace (length_of pages pace) ≤ distance pages pace n
  -- .. and none that is as near is greater: an exact half goes up.
  pub half_up : (n : ℕ) → distance pages pace n ≡ distance pages pace (length_of pages pace) → n ≤ length_of pages pace
  -- Length lies between 1 and 30,000.
  pub least : 1 ≤ length_of pages pace
  pub most : length_of pages pace ≤ longest_length

-- So it is for every count of pages and every pace that a book may tell.
abbrev pub NearestMinute : Type 0
NearestMinute = (pages pace : ℕ) → 1 ≤ pages → pages ≤ most_pages → least_pace ≤ pace → pace ≤ most_pace → Nearest pages pace
