-- Only the first 1,028 words are looked at.
-- Rests on: Shown.
use Rattle.std.specs.Prelude.{ℕ, ◌≡◌, List, take}
use Rattle.sheet.specs.Shown.{shown}

-- No byte past them changes what is shown of any input.
abbrev pub OnlyFirstWords : Type 0
OnlyFirstWords = (input : List ℕ) → shown input ≡ shown (take 4112 input)
