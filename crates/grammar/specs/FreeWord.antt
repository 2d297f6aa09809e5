-- The free word of a book says nothing of its rows: two books that differ in it alone tell the same rows, or are wrong at the same word.
-- The proofs are `own_minute` and `free_word`, in proofs/FreeWord.antt. Rests on: Books, Words, the limits.
use Rattle.std.specs.Prelude.{ℕ, ◌≤◌, ◌≡◌, List, ◌∷◌, ◌↔◌}
use Rattle.schedule.specs.Limits.{latest_minute}
use Rattle.schedule.specs.declared.Row.{Row}
use Rattle.schedule.specs.Rows.{Day}
use Rattle.book.specs.Rows.{day_of}
use Rattle.grammar.specs.Words.{FirstWrong}
use Rattle.grammar.specs.Books.{word_of, Tells}

-- A book from a free minute: its free word tells this minute, and these are its other words. (Every book that tells a day is one.)
abbrev pub book_from : (free : ℕ) → List ℕ → List ℕ
book_from free rest = word_of 1 free ∷ rest

-- It tells no other free minute than this, which is in range.
abbrev pub OwnMinute : Type 0
OwnMinute = (free : ℕ) (rest : List ℕ) (day : Day) → Tells (book_from free rest) day → (day.free ≡ free) × (free ≤ latest_minute)

module _ (free later : ℕ) (rest : List ℕ) where
  pub record AlikeButFree : Type 0 where
    -- The books tell the same rows, each at its own free minute: one tells rows exactly if the other does ..
    pub rows : (rows : List Row) → Tells (book_from free rest) (day_of free rows) ↔ Tells (book_from later rest) (day_of later rows)
    -- .. and otherwise they have the same first wrong word, with the same number.
    pub wrong : (n p : ℕ) → FirstWrong (book_from free rest) n p ↔ FirstWrong (book_from later rest) n p

-- So it is of any two free minutes in range.
abbrev pub FreeWord : Type 0
FreeWord = (free later : ℕ) (rest : List ℕ) → free ≤ latest_minute → later ≤ latest_minute → AlikeButFree free later rest
