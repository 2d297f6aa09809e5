-- Days worked through by first come, first due: the table, and that every entry holds of the definitions. The proof is `days_hold`, in
-- proofs/Days.antt. Rests on: the calls' Days.
use Rattle.std.specs.Prelude.{ℕ, List, [], ◌∷◌, pos, negsuc, Ok, Err}
use Rattle.refusals.specs.Tests.{refusal_at}
use Rattle.book.specs.Rows.{refused}
use Rattle.grammar.specs.Books.{word_of, book_of as book}
use Rattle.outcomes.specs.Planning.{gives}
use Rattle.outcomes.specs.declared.Verdict.TheVariants as verdict
use Rattle.calls.specs.Days.{entry, reading, list, bound, plan, posting, row_words_of, row_place_of, Worked, ◌gets◌, with_minutes, Hold}
use Rattle.calls.specs.Days.{reads, lists, judges, words, finds, plans, order, turned_down}
use Rattle.readers.specs.Reads.{first_come}

-- M1's two rows; three rows, of which the third disagrees with the first alone.
abbrev pub two_rows : List ℕ
two_rows = book 0 60 (entry 901 1 1 5 ∷ entry 902 0 10 12 ∷ [])

abbrev pub apart_rows : List ℕ
apart_rows = book 0 60 (entry 901 0 5 10 ∷ entry 902 0 18 20 ∷ entry 903 0 7 15 ∷ [])

-- Two rows that come and are due together, below one that comes later; rows of which only the first and the third cross; rows due together.
abbrev pub coming_rows : List ℕ
coming_rows = book 0 60 (entry 901 5 2 20 ∷ entry 902 0 10 12 ∷ entry 903 0 3 12 ∷ [])

abbrev pub crossed_rows : List ℕ
crossed_rows = book 0 60 (entry 901 0 1 30 ∷ entry 902 0 1 5 ∷ entry 903 4 1 10 ∷ [])

abbrev pub due_together : List ℕ
due_together = book 0 60 (entry 901 4 1 9 ∷ entry 902 0 2 9 ∷ [])

abbrev pub days : List Worked
days =
    -- One plan, by release, then due, then row: also where the later row is shorter.
    (list coming_rows (0 ∷ 0 ∷ 7 ∷ 7 ∷ 7 ∷ 7 ∷ []) gets plans 1 (15 ∷ 1 ∷ 7 ∷ 7 ∷ 7 ∷ 7 ∷ [])) ∷
    (list coming_rows (1 ∷ 2 ∷ 3 ∷ 4 ∷ 5 ∷ []) gets lists (gives (Err (refusal_at 9 0)) (1 ∷ 2 ∷ 3 ∷ 4 ∷ 5 ∷ []))) ∷
    (plan coming_rows 1 (0 ∷ 0 ∷ 0 ∷ 8 ∷ []) gets order 15 (pos 1) (2 ∷ 3 ∷ 1 ∷ 8 ∷ [])) ∷
    (plan coming_rows 0 [] gets turned_down 11 1 []) ∷
    (plan coming_rows 2 [] gets turned_down 11 1 []) ∷
    (plan coming_rows 1 (5 ∷ []) gets turned_down 9 0 (5 ∷ [])) ∷
    -- A bound gives it if its worst lateness is at most the bound.
    (bound coming_rows (pos 6) (0 ∷ 0 ∷ 0 ∷ []) gets order 15 (pos 1) (2 ∷ 3 ∷ 1 ∷ [])) ∷
    (bound coming_rows (pos 1) (0 ∷ 0 ∷ 0 ∷ []) gets order 15 (pos 1) (2 ∷ 3 ∷ 1 ∷ [])) ∷
    (bound coming_rows (pos 0) (4 ∷ 5 ∷ 6 ∷ []) gets turned_down 12 0 (4 ∷ 5 ∷ 6 ∷ [])) ∷
    -- Postings: beaten by the one plan; unbeaten, with its pair; not every row once.
    (posting coming_rows (1 ∷ 2 ∷ 3 ∷ []) gets judges (Ok (verdict.Beaten 20 (pos 8) 1))) ∷
    (posting coming_rows (3 ∷ 2 ∷ 1 ∷ []) gets judges (Ok (verdict.Unbeaten 15 (pos 1)))) ∷
    (posting coming_rows (3 ∷ 2 ∷ 3 ∷ []) gets judges (Err (refusal_at 10 2))) ∷
    -- A row's words and their place.
    (row_words_of coming_rows 3 gets words (word_of 3 903 ∷ word_of 4 0 ∷ word_of 5 3 ∷ word_of 6 12 ∷ [])) ∷
    (row_place_of coming_rows 3 gets finds (Ok 10)) ∷
    (row_place_of coming_rows 4 gets finds (Err (refusal_at 11 3))) ∷
    -- M1's rows cross, although they agree; so do a first and a third row, at the third. Rows due together do not.
    (reading two_rows gets reads (refused 13 6)) ∷
    (list crossed_rows (1 ∷ []) gets lists (gives (Err (refusal_at 13 10)) (1 ∷ []))) ∷
    (row_words_of crossed_rows 1 gets words []) ∷
    (plan due_together 1 (0 ∷ 0 ∷ []) gets order 5 (negsuc 3) (2 ∷ 1 ∷ [])) ∷
    -- Rows that disagree, and do not cross.
    (plan apart_rows 1 (0 ∷ 0 ∷ 0 ∷ []) gets order 30 (pos 10) (1 ∷ 3 ∷ 2 ∷ [])) ∷
    -- Opening minutes: each row takes so much longer, in the same order. 31 are refused before the book is looked at.
    with_minutes 1 (list coming_rows (0 ∷ 0 ∷ 7 ∷ 7 ∷ 7 ∷ 7 ∷ []) gets plans 1 (18 ∷ 3 ∷ 7 ∷ 7 ∷ 7 ∷ 7 ∷ [])) ∷
    with_minutes 30 (plan coming_rows 1 (0 ∷ 0 ∷ 0 ∷ []) gets order 105 (pos 85) (2 ∷ 3 ∷ 1 ∷ [])) ∷
    with_minutes 30 (bound coming_rows (pos 84) (4 ∷ 5 ∷ 6 ∷ []) gets turned_down 12 0 (4 ∷ 5 ∷ 6 ∷ [])) ∷
    with_minutes 30 (posting coming_rows (1 ∷ 2 ∷ 3 ∷ []) gets judges (Ok (verdict.Beaten 110 (pos 98) 1))) ∷
    with_minutes 30 (reading two_rows gets reads (refused 13 6)) ∷
    with_minutes 31 (list two_rows (1 ∷ []) gets lists (gives (Err (refusal_at 3 0)) (1 ∷ []))) ∷
    []

-- Each is answered as the table says.
abbrev pub DaysHold : Type 0
DaysHold = Hold first_come days
