-- Days worked through: the table of what is wanted and what is told. That the call answers as the table says is `wanted_hold`, in
-- proofs/Worked.antt. (The definition looks at ten million minutes, so it does not compute; the orders at a minute and at the next do.)
-- Rests on: Promise, the grammar's books.
use Rattle.std.specs.Prelude.{ℕ, ◌≡◌, ℤ, pos, negsuc}
use mathlib.Core.List.{List, [], ◌∷◌, Memᴰ}
use Rattle.grammar.specs.Books.{book_of as book}
use Rattle.outcomes.specs.Planning.{Outcome, gives}
use Rattle.calls.specs.Answers.{Said, said_no}
use Rattle.calls.specs.Days.{entry}
use Rattle.latest_free.specs.Answers.{said_from}
use Rattle.latest_promises.specs.Promise.{latest}

-- What is lent and wanted, and what is said, with the buffer after it.
pub record Wanted : Type 0 where
  pub opening : ℕ
  pub book : List ℕ
  pub end : ℤ
  pub late : ℤ
  pub buffer : List ℕ
  pub told : Outcome Said

abbrev pub wanting : List ℕ → (end late : ℤ) → (buffer : List ℕ) → Outcome Said → Wanted
wanting ws e y b o = record { opening = 0; book = ws; end = e; late = y; buffer = b; told = o }

abbrev pub opened : (opening : ℕ) → Wanted → Wanted
opened opening d = record { opening = opening; book = d.book; end = d.end; late = d.late; buffer = d.buffer; told = d.told }

abbrev pub from : (minute end : ℕ) → ℤ → (buffer : List ℕ) → Outcome Said
from t e y b = gives (said_from t (record { end = e; late = y })) b

abbrev pub refused : (number place : ℕ) (buffer : List ℕ) → Outcome Said
refused n p b = gives (said_no n p) b

-- M1 from a free minute, and with another due of row 2; one row of 4 pages that is released at 100 and due at 110; M13.
abbrev pub two_rows : (free due : ℕ) → List ℕ
two_rows free due = book free 60 (entry 901 1 1 5 ∷ entry 902 0 10 due ∷ [])

abbrev pub one_row : List ℕ
one_row = book 0 60 (entry 901 100 4 110 ∷ [])

abbrev pub four_rows : List ℕ
four_rows = book 0 60 (entry 901 1 1 5 ∷ entry 902 0 10 12 ∷ entry 903 101 1 104 ∷ entry 904 100 20 122 ∷ [])

abbrev pub zeros : List ℕ
zeros = 0 ∷ 0 ∷ []

abbrev pub wanted_days : List Wanted
wanted_days =
    -- M1's plans are (11, 6) and (12, 0). To end by 12 and be 0 late it opens at 1 at the latest; from 2 on both orders are late. To end by
    -- 11 and be 6 late it opens at 0. A lateness of 5 and an end of 11 are not to be had: the order that is less late ends at 12.
    wanting (two_rows 0 12) (pos 12) (pos 0) (7 ∷ 7 ∷ 7 ∷ []) (from 1 12 (pos 0) (1 ∷ 2 ∷ 7 ∷ [])) ∷
    wanting (two_rows 0 12) (pos 11) (pos 6) zeros (from 0 11 (pos 6) (2 ∷ 1 ∷ [])) ∷
    wanting (two_rows 0 12) (pos 11) (pos 5) zeros (refused 17 0 zeros) ∷
    -- Both wanted numbers count: with either of them as large as can be, the other decides. No order ends by 10, whatever its lateness, and
    -- in none is every row early.
    wanting (two_rows 0 12) (pos 2147483647) (pos 0) zeros (from 1 12 (pos 0) (1 ∷ 2 ∷ [])) ∷
    wanting (two_rows 0 12) (pos 20) (pos 2147483647) zeros (from 9 20 (pos 8) (1 ∷ 2 ∷ [])) ∷
    wanting (two_rows 0 12) (pos 10) (pos 2147483647) zeros (refused 17 0 zeros) ∷
    wanting (two_rows 0 12) (pos 2147483647) (negsuc 0) zeros (refused 17 0 zeros) ∷
    -- A wanted end below 0, and wanted numbers at the lower end of their range.
    wanting (two_rows 0 12) (negsuc 0) (pos 6) zeros (refused 17 0 zeros) ∷
    wanting (two_rows 0 12) (negsuc 2147483647) (negsuc 2147483647) zeros (refused 17 0 zeros) ∷
    -- 10,000,000 itself, and the minute before it.
    wanting (two_rows 0 12) (pos 2147483647) (pos 2147483647) zeros (from 10000000 10000011 (pos 9999999) (1 ∷ 2 ∷ [])) ∷
    wanting (two_rows 0 12) (pos 10000011) (pos 9999999) zeros (from 10000000 10000011 (pos 9999999) (1 ∷ 2 ∷ [])) ∷
    wanting (two_rows 0 12) (pos 10000010) (pos 9999999) zeros (from 9999999 10000010 (pos 9999998) (1 ∷ 2 ∷ [])) ∷
    -- Idle time: the row is released at 100, so up to 100 a later free minute changes nothing, and its end of 104 is kept by all of them.
    wanting one_row (pos 104) (negsuc 5) (0 ∷ []) (from 100 104 (negsuc 5) (1 ∷ [])) ∷
    wanting one_row (pos 105) (pos 0) (0 ∷ []) (from 101 105 (negsuc 4) (1 ∷ [])) ∷
    wanting one_row (pos 103) (pos 0) (0 ∷ []) (refused 17 0 (0 ∷ [])) ∷
    -- M13's plans: for (122, 0) the desk opens at 1 at the latest, for (121, 17) at 18.
    wanting four_rows (pos 122) (pos 0) (0 ∷ 0 ∷ 0 ∷ 0 ∷ []) (from 1 122 (pos 0) (1 ∷ 2 ∷ 3 ∷ 4 ∷ [])) ∷
    wanting four_rows (pos 121) (pos 17) (0 ∷ 0 ∷ 0 ∷ 0 ∷ []) (from 18 121 (pos 17) (1 ∷ 2 ∷ 4 ∷ 3 ∷ [])) ∷
    -- The book's own free word is not used, but tested.
    wanting (two_rows 7000000 12) (pos 12) (pos 0) zeros (from 1 12 (pos 0) (1 ∷ 2 ∷ [])) ∷
    wanting (two_rows 10000001 12) (pos 12) (pos 0) zeros (refused 3 0 zeros) ∷
    -- With one opening minute M1's rows take 2 and 11: the soonest end from 0 is 13, 8 late.
    opened 1 (wanting (two_rows 0 12) (pos 13) (pos 8) zeros (from 0 13 (pos 8) (2 ∷ 1 ∷ []))) ∷
    -- Refused by the opening, by the book, for the buffer, in this sequence.
    opened 31 (wanting (two_rows 0 14) (pos 12) (pos 0) [] (refused 3 0 [])) ∷
    wanting [] (pos 12) (pos 0) [] (refused 1 0 []) ∷
    wanting (two_rows 0 14) (pos 12) (pos 0) [] (refused 8 6 []) ∷
    wanting (two_rows 0 12) (negsuc 0) (pos 0) (7 ∷ []) (refused 9 0 (7 ∷ [])) ∷
    []

-- Each is answered as the table says.
abbrev pub WantedHold : Type 0
WantedHold = (d : Wanted) → Memᴰ d wanted_days → latest d.opening d.book d.end d.late d.buffer ≡ d.told
