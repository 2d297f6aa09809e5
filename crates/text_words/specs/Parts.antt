-- Where words stand: a line is the beginning of what is left of a text, and a word a part of its line.
-- Rests on: nothing.
use Rattle.std.specs.Prelude.{ℕ, ◌++◌, ◌≡◌, List}

-- The text begins with the line.
abbrev pub Begins : (line text : List ℕ) → Type 0
Begins line text = (rest : List ℕ) × (text ≡ line ++ rest)

-- The word stands in the line, and `after` is what stands behind it.
abbrev pub WordIn : (word after line : List ℕ) → Type 0
WordIn word after line = (before : List ℕ) × (line ≡ before ++ (word ++ after))

-- The rest of a line stands in the text, behind its first word.
abbrev pub LineIn : (line text : List ℕ) → Type 0
LineIn line text = (before : List ℕ) × (behind : List ℕ) × (text ≡ before ++ (line ++ behind))
