-- The tests 1 to 3 at a word. `ws` is the book from `place` on: the rest that is still to be read.
-- Rests on: Words, the refusals.
use Rattle.std.specs.Prelude.{ℕ, ◌+◌, Bool, not, ◌||◌, List, leb, ltb, eqb, length}
use Rattle.refusals.specs.Tests.{Tested}
use Rattle.refusals.specs.Refusals.{by_cut, by_kind, by_range}
use Rattle.refusals.specs.Tests.{refuse_if, ◌then◌, open_refusals}
use Rattle.words.specs.Words.{kind, value, word}

-- The last place where a row can begin: word 1,026 would open row 257.
abbrev pub last_start : ℕ
last_start = 1026

-- The value lies outside of the range from lo to hi.
abbrev pub outside : ℕ → ℕ → ℕ → Bool
outside v lo hi = ltb v lo || ltb hi v

-- Cut and kind, at word i of the rest, where a word of the kind k is due. (The place of a cut is the book's length.)
unfoldable pub kind_tests : (k place : ℕ) → List ℕ → ℕ → Tested
kind_tests k place ws i =
    refuse_if (leb (length ws) i) by_cut (place + length ws) then
    refuse_if (not (eqb (kind (word ws i)) k)) by_kind (place + i)

-- Cut, kind and range: a word of the kind k with a value from lo to hi is due.
unfoldable pub word_tests : (k lo hi place : ℕ) → List ℕ → ℕ → Tested
word_tests k lo hi place ws i =
    kind_tests k place ws i then
    refuse_if (outside (value (word ws i)) lo hi) by_range (place + i)

-- Opens every definition of this file and of those that it rests on.
unfoldable pub open_words : Unit {0}
unfolding open_refusals kind_tests word_tests
open_words = tt
