-- The words of a book: kind and value.
-- Rests on: nothing.
use Rattle.std.specs.Prelude.{ℕ, ◌/◌, ◌%◌, List, get_or}

-- The kind: the top three bits of a word.
abbrev pub kind : ℕ → ℕ
kind w = w / 536870912

-- The value: the low 29 bits.
abbrev pub value : ℕ → ℕ
value w = w % 536870912

-- Word i of the rest. (0 past its end.)
abbrev pub word : List ℕ → ℕ → ℕ
word ws i = get_or ws i 0
