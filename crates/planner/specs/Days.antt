-- The days worked through, M1 to M13, days with classes, with rows as they arrive, with reading times between whole minutes, with opening
-- minutes and with a later free minute: the table, and that every entry holds of the definitions. The proof is `days_hold`, in
-- proofs/Days.antt. Rests on: the calls' Days.
use Rattle.std.specs.Prelude.{ℕ, List, [], ◌∷◌, pos, negsuc, None, Ok, Err}
use Rattle.refusals.specs.Tests.{refusal_at}
use Rattle.book.specs.Rows.{refused, accepted}
use Rattle.grammar.specs.Books.{word_of, book_of as book}
use Rattle.outcomes.specs.Planning.{gives}
use Rattle.outcomes.specs.declared.Verdict.TheVariants as verdict
use Rattle.calls.specs.Lines.{listing}
use Rattle.calls.specs.Days.{entry, sold, reading, printing, list, bound, plan, posting, row_words_of, row_place_of, length_of}
use Rattle.calls.specs.Days.{reads, prints, lists, judges, words, finds, takes, lasts, due, plans, order, turned_down, line}
use Rattle.calls.specs.Days.{Worked, ◌gets◌, with_minutes, Hold}
use Rattle.readers.specs.Reads.{ordering_rule}

-- M1's book, with the due of row 2 open for M7 and M8, also with its rows swapped; M2 to M6; M9; M10; M13, also with its rows mixed.
abbrev pub two_rows : ℕ → List ℕ
two_rows due = book 0 60 (entry 901 1 1 5 ∷ entry 902 0 10 due ∷ [])

abbrev pub swapped_rows : ℕ → List ℕ
swapped_rows due = book 0 60 (entry 902 0 10 due ∷ entry 901 1 1 5 ∷ [])

abbrev pub three_rows : List ℕ
three_rows = book 0 60 (entry 901 1 1 5 ∷ entry 902 0 10 12 ∷ entry 903 20 5 27 ∷ [])

abbrev pub one_row : List ℕ
one_row = book 7 60 (entry 901 3 4 10 ∷ [])

abbrev pub equal_rows : List ℕ
equal_rows = book 0 60 (entry 901 0 2 5 ∷ entry 902 0 2 5 ∷ [])

abbrev pub four_rows_from : (free : ℕ) → List ℕ
four_rows_from free = book free 60 (entry 901 1 1 5 ∷ entry 902 0 10 12 ∷ entry 903 101 1 104 ∷ entry 904 100 20 122 ∷ [])

abbrev pub four_rows : List ℕ
four_rows = four_rows_from 0

abbrev pub mixed_rows : List ℕ
mixed_rows = book 0 60 (entry 904 100 20 122 ∷ entry 901 1 1 5 ∷ entry 903 101 1 104 ∷ entry 902 0 10 12 ∷ [])

-- Three rows, of which the third disagrees with the first alone. Two rows due at 30 and released before the desk is free at 10.
abbrev pub apart_rows : List ℕ
apart_rows = book 0 60 (entry 901 0 5 10 ∷ entry 902 0 18 20 ∷ entry 903 0 7 15 ∷ [])

abbrev pub tied_rows : (release pages release' pages' : ℕ) → List ℕ
tied_rows release pages release' pages' = book 10 60 (entry 901 release pages 30 ∷ entry 902 release' pages' 30 ∷ [])

-- One row of a class; M1's first row of class 0 above a row with a due; two rows of one class, whose dues fall or not.
abbrev pub class_row : ℕ → List ℕ
class_row c = book 0 60 (sold 901 10 5 c ∷ [])

abbrev pub class_and_due : List ℕ
class_and_due = book 0 60 (sold 901 1 1 0 ∷ entry 902 0 10 70 ∷ [])

abbrev pub class_rows : ℕ → List ℕ
class_rows pages = book 0 60 (sold 901 3 2 1 ∷ sold 902 0 pages 1 ∷ [])

-- M1's book at pace 50: reading times of 1.2 and 9.6 minutes, the same lengths. One row of class 0, so many pages at a pace.
abbrev pub nearest_rows : ℕ → List ℕ
nearest_rows due = book 0 50 (entry 901 1 1 5 ∷ entry 902 0 8 due ∷ [])

abbrev pub sold_row : (pages pace : ℕ) → List ℕ
sold_row pages pace = book 0 pace (sold 901 10 pages 0 ∷ [])

-- Two rows whose list has more plans, then fewer, from later free minutes.
abbrev pub pushed_rows : (free : ℕ) → List ℕ
pushed_rows free = book free 60 (entry 901 0 5 9 ∷ entry 902 2 1 7 ∷ [])

-- A row in which another word stands in the place of the due word.
abbrev pub other_word : ℕ → ℕ → List ℕ
other_word k v = word_of 1 0 ∷ word_of 2 60 ∷ word_of 3 901 ∷ word_of 4 10 ∷ word_of 5 5 ∷ word_of k v ∷ word_of 7 1 ∷ []

abbrev pub days : List Worked
days =
    -- M1: the two-row book; two plans.
    (printing (two_rows 12) gets prints (listing 2 (line 11 (pos 6) (902 ∷ 901 ∷ []) ∷ line 12 (pos 0) (901 ∷ 902 ∷ []) ∷ []))) ∷
    (list (two_rows 12) (0 ∷ 0 ∷ 0 ∷ 0 ∷ 9 ∷ []) gets plans 2 (11 ∷ 6 ∷ 12 ∷ 0 ∷ 9 ∷ [])) ∷
    (plan (two_rows 12) 1 (0 ∷ 0 ∷ []) gets order 11 (pos 6) (2 ∷ 1 ∷ [])) ∷
    (plan (two_rows 12) 2 (0 ∷ 0 ∷ []) gets order 12 (pos 0) (1 ∷ 2 ∷ [])) ∷
    -- M2: with row 903 added there is one plan.
    (printing three_rows gets prints (listing 3 (line 25 (pos 0) (901 ∷ 902 ∷ 903 ∷ []) ∷ []))) ∷
    (list three_rows (0 ∷ 0 ∷ 0 ∷ 0 ∷ 0 ∷ 0 ∷ []) gets plans 1 (25 ∷ 0 ∷ 0 ∷ 0 ∷ 0 ∷ 0 ∷ [])) ∷
    (list three_rows (1 ∷ 2 ∷ 3 ∷ 4 ∷ 5 ∷ []) gets lists (gives (Err (refusal_at 9 0)) (1 ∷ 2 ∷ 3 ∷ 4 ∷ 5 ∷ []))) ∷
    (plan three_rows 2 [] gets turned_down 11 1 []) ∷
    -- M3, M4, M5: the bounds 6, 0 and -1 in M2.
    (bound three_rows (pos 6) (0 ∷ 0 ∷ 0 ∷ []) gets order 25 (pos 6) (2 ∷ 1 ∷ 3 ∷ [])) ∷
    (bound three_rows (pos 0) (0 ∷ 0 ∷ 0 ∷ 8 ∷ []) gets order 25 (pos 0) (1 ∷ 2 ∷ 3 ∷ 8 ∷ [])) ∷
    (bound three_rows (negsuc 0) (0 ∷ 0 ∷ 0 ∷ []) gets turned_down 12 0 (0 ∷ 0 ∷ 0 ∷ [])) ∷
    -- M6: the posting 2 1 3 in M2 is beaten by plan 1.
    (posting three_rows (2 ∷ 1 ∷ 3 ∷ []) gets judges (Ok (verdict.Beaten 25 (pos 6) 1))) ∷
    -- M7, M8: M1 with row 2 due 13 is accepted, due 14 is refused 8 at 6.
    (reading (two_rows 13) gets reads (accepted (record {
      free = 0;
      rows =
          record { number = 901; release = 1; length = 1; due = 5; class = None; pages = 1 } ∷
          record { number = 902; release = 0; length = 10; due = 13; class = None; pages = 10 } ∷ [];
    }))) ∷
    (reading (two_rows 14) gets reads (refused 8 6)) ∷
    -- M9: one row, free 7.
    (plan one_row 1 (0 ∷ []) gets order 11 (pos 1) (1 ∷ [])) ∷
    -- M10: two equal rows; early work has a negative lateness, in two's complement.
    (plan equal_rows 1 (0 ∷ 0 ∷ []) gets order 4 (negsuc 0) (1 ∷ 2 ∷ [])) ∷
    (list equal_rows (0 ∷ 0 ∷ 7 ∷ 7 ∷ []) gets plans 1 (4 ∷ 4294967295 ∷ 7 ∷ 7 ∷ [])) ∷
    -- M11, M12: 7 pages at pace 40 take 11, 1 page at pace 50 takes 1.
    (length_of 7 40 gets takes 11) ∷
    (length_of 1 50 gets takes 1) ∷
    -- M13: four rows, two plans.
    (list four_rows (0 ∷ 0 ∷ 0 ∷ 0 ∷ 0 ∷ 0 ∷ 0 ∷ 0 ∷ []) gets plans 2 (121 ∷ 17 ∷ 122 ∷ 0 ∷ 0 ∷ 0 ∷ 0 ∷ 0 ∷ [])) ∷
    (plan four_rows 1 (0 ∷ 0 ∷ 0 ∷ 0 ∷ []) gets order 121 (pos 17) (2 ∷ 1 ∷ 4 ∷ 3 ∷ [])) ∷
    (plan four_rows 2 (0 ∷ 0 ∷ 0 ∷ 0 ∷ []) gets order 122 (pos 0) (1 ∷ 2 ∷ 3 ∷ 4 ∷ [])) ∷
    -- A row's words and their place, in M13.
    (row_words_of four_rows 2 gets words (word_of 3 902 ∷ word_of 4 0 ∷ word_of 5 10 ∷ word_of 6 12 ∷ [])) ∷
    (row_place_of four_rows 2 gets finds (Ok 6)) ∷
    (row_place_of four_rows 5 gets finds (Err (refusal_at 11 4))) ∷
    -- Classes: the eight margins, after release 10 and length 5; class 8 is out of range, and another kind is not due there.
    (reading (class_row 0) gets due 75 0) ∷
    (reading (class_row 1) gets due 135 1) ∷
    (reading (class_row 2) gets due 495 2) ∷
    (reading (class_row 3) gets due 1455 3) ∷
    (reading (class_row 4) gets due 4335 4) ∷
    (reading (class_row 5) gets due 10095 5) ∷
    (reading (class_row 6) gets due 20175 6) ∷
    (reading (class_row 7) gets due 43215 7) ∷
    (reading (class_row 8) gets reads (refused 3 5)) ∷
    (reading (other_word 1 0) gets reads (refused 2 5)) ∷
    (reading (other_word 7 1) gets reads (refused 2 5)) ∷
    -- A class above a due: row 901 is due 62.
    (list class_and_due (0 ∷ 0 ∷ 0 ∷ 0 ∷ []) gets plans 2 (11 ∷ 4294967245 ∷ 12 ∷ 4294967238 ∷ [])) ∷
    (printing class_and_due gets prints (listing 2 (line 11 (negsuc 50) (902 ∷ 901 ∷ []) ∷ line 12 (negsuc 57) (901 ∷ 902 ∷ []) ∷ []))) ∷
    (row_words_of class_and_due 1 gets words (word_of 3 901 ∷ word_of 4 1 ∷ word_of 5 1 ∷ word_of 0 0 ∷ [])) ∷
    -- Two rows of class 1: the second is due with the first, or a minute sooner.
    (plan (class_rows 5) 1 (0 ∷ 0 ∷ []) gets order 7 (negsuc 117) (2 ∷ 1 ∷ [])) ∷
    (plan (class_rows 4) 1 (0 ∷ 0 ∷ []) gets order 6 (negsuc 118) (2 ∷ 1 ∷ [])) ∷
    -- M1 and M13 with their rows as they arrive: the same plans. M8's rows disagree in either order.
    (printing (swapped_rows 12) gets prints (listing 2 (line 11 (pos 6) (902 ∷ 901 ∷ []) ∷ line 12 (pos 0) (901 ∷ 902 ∷ []) ∷ []))) ∷
    (list mixed_rows (0 ∷ 0 ∷ 0 ∷ 0 ∷ 0 ∷ 0 ∷ 0 ∷ 0 ∷ []) gets plans 2 (121 ∷ 17 ∷ 122 ∷ 0 ∷ 0 ∷ 0 ∷ 0 ∷ 0 ∷ [])) ∷
    (plan mixed_rows 1 (0 ∷ 0 ∷ 0 ∷ 0 ∷ []) gets order 121 (pos 17) (4 ∷ 2 ∷ 1 ∷ 3 ∷ [])) ∷
    (plan mixed_rows 2 (0 ∷ 0 ∷ 0 ∷ 0 ∷ []) gets order 122 (pos 0) (2 ∷ 4 ∷ 3 ∷ 1 ∷ [])) ∷
    (posting mixed_rows (2 ∷ 4 ∷ 3 ∷ 1 ∷ []) gets judges (Ok (verdict.Unbeaten 122 (pos 0)))) ∷
    (reading (swapped_rows 14) gets reads (refused 8 6)) ∷
    (reading apart_rows gets reads (refused 8 10)) ∷
    -- Equal dues with different spare: the smaller release plus length goes first, be it the shorter or the longer row; then the smaller
    -- row.
    (plan (tied_rows 0 8 4 3) 1 (0 ∷ 0 ∷ []) gets order 21 (negsuc 8) (2 ∷ 1 ∷ [])) ∷
    (plan (tied_rows 4 3 0 6) 1 (0 ∷ 0 ∷ []) gets order 19 (negsuc 10) (2 ∷ 1 ∷ [])) ∷
    (plan (tied_rows 2 4 0 6) 1 (0 ∷ 0 ∷ []) gets order 20 (negsuc 9) (1 ∷ 2 ∷ [])) ∷
    (plan (tied_rows 0 6 2 4) 1 (0 ∷ 0 ∷ []) gets order 20 (negsuc 9) (1 ∷ 2 ∷ [])) ∷
    -- The nearest minute: exact halves, the least of them (1/2), 1 1/2 and the greatest (14,992 1/2); what lies nearest to a half, above
    -- it (60/119) and below it (59 59/119); the greatest length.
    (length_of 1 120 gets takes 1) ∷
    (length_of 3 120 gets takes 2) ∷
    (length_of 1999 8 gets takes 14993) ∷
    (length_of 1 119 gets takes 1) ∷
    (length_of 118 119 gets takes 59) ∷
    (length_of 2000 4 gets takes 30000) ∷
    -- A class due follows the length: 10 1/2, 1 1/5 and 1/2 minutes, after release 10 and with a margin of 60.
    (reading (sold_row 7 40) gets lasts 11 81 0 7) ∷
    (reading (sold_row 1 50) gets lasts 1 71 0 1) ∷
    (reading (sold_row 1 120) gets lasts 1 71 0 1) ∷
    -- So do spares and plans: M1, M7 and M8 at pace 50.
    (printing (nearest_rows 12) gets prints (listing 2 (line 11 (pos 6) (902 ∷ 901 ∷ []) ∷ line 12 (pos 0) (901 ∷ 902 ∷ []) ∷ []))) ∷
    (list (nearest_rows 13) (0 ∷ 0 ∷ 0 ∷ 0 ∷ []) gets plans 2 (11 ∷ 6 ∷ 12 ∷ 4294967295 ∷ [])) ∷
    (reading (nearest_rows 14) gets reads (refused 8 6)) ∷
    -- Opening 1 and 30 minutes, in M1, M2 and M13: each row takes so much longer. With 30, the one plan of M2 takes row 2 first.
    with_minutes 1 (list (two_rows 12) (0 ∷ 0 ∷ 0 ∷ 0 ∷ []) gets plans 2 (13 ∷ 8 ∷ 14 ∷ 2 ∷ [])) ∷
    with_minutes 1 (bound three_rows (pos 8) (0 ∷ 0 ∷ 0 ∷ []) gets order 26 (pos 8) (2 ∷ 1 ∷ 3 ∷ [])) ∷
    with_minutes 1 (bound three_rows (pos 1) (0 ∷ 0 ∷ 0 ∷ []) gets turned_down 12 0 (0 ∷ 0 ∷ 0 ∷ [])) ∷
    with_minutes 1 (posting three_rows (2 ∷ 1 ∷ 3 ∷ []) gets judges (Ok (verdict.Beaten 26 (pos 8) 1))) ∷
    with_minutes 30 (list (two_rows 12) (0 ∷ 0 ∷ 0 ∷ 0 ∷ []) gets plans 2 (71 ∷ 66 ∷ 72 ∷ 60 ∷ [])) ∷
    with_minutes 30 (list three_rows (0 ∷ 0 ∷ 0 ∷ 0 ∷ 0 ∷ 0 ∷ []) gets plans 1 (106 ∷ 79 ∷ 0 ∷ 0 ∷ 0 ∷ 0 ∷ [])) ∷
    with_minutes 30 (posting three_rows (1 ∷ 2 ∷ 3 ∷ []) gets judges (Ok (verdict.Beaten 107 (pos 80) 1))) ∷
    with_minutes 30 (plan four_rows 2 (0 ∷ 0 ∷ 0 ∷ 0 ∷ []) gets order 182 (pos 60) (1 ∷ 2 ∷ 3 ∷ 4 ∷ [])) ∷
    -- Disorder, class dues and ranks count no opening.
    with_minutes 30 (reading (two_rows 14) gets reads (refused 8 6)) ∷
    with_minutes 30 (reading (class_row 0) gets due 75 0) ∷
    with_minutes 30 (list class_and_due (0 ∷ 0 ∷ 0 ∷ 0 ∷ []) gets plans 2 (71 ∷ 9 ∷ 72 ∷ 2 ∷ [])) ∷
    with_minutes 30 (plan (tied_rows 0 8 4 3) 1 (0 ∷ 0 ∷ []) gets order 81 (pos 51) (2 ∷ 1 ∷ [])) ∷
    -- 31 minutes are refused before the book and the buffer are looked at. A row's words are told no opening.
    with_minutes 31 (list [] [] gets lists (gives (Err (refusal_at 3 0)) [])) ∷
    with_minutes 31 (bound (two_rows 14) (pos 0) (7 ∷ []) gets turned_down 3 0 (7 ∷ [])) ∷
    with_minutes 31 (plan (two_rows 12) 3 [] gets turned_down 3 0 []) ∷
    with_minutes 31 (posting (two_rows 12) [] gets judges (Err (refusal_at 3 0))) ∷
    with_minutes 31 (row_place_of four_rows 2 gets finds (Ok 6)) ∷
    -- A later start. M13 from 1 has the plans that it has from 0, and from 5 the second is 4 late; from 50 there is one plan. Two rows have
    -- one plan from 0, two from 1, and one from 2.
    (list (four_rows_from 1) (0 ∷ 0 ∷ 0 ∷ 0 ∷ 0 ∷ 0 ∷ 0 ∷ 0 ∷ []) gets plans 2 (121 ∷ 17 ∷ 122 ∷ 0 ∷ 0 ∷ 0 ∷ 0 ∷ 0 ∷ [])) ∷
    (list (four_rows_from 5) (0 ∷ 0 ∷ 0 ∷ 0 ∷ 0 ∷ 0 ∷ 0 ∷ 0 ∷ []) gets plans 2 (121 ∷ 17 ∷ 122 ∷ 4 ∷ 0 ∷ 0 ∷ 0 ∷ 0 ∷ [])) ∷
    (list (four_rows_from 50) (0 ∷ 0 ∷ 0 ∷ 0 ∷ 0 ∷ 0 ∷ 0 ∷ 0 ∷ []) gets plans 1 (121 ∷ 49 ∷ 0 ∷ 0 ∷ 0 ∷ 0 ∷ 0 ∷ 0 ∷ [])) ∷
    (printing (pushed_rows 0) gets prints (listing 2 (line 6 (negsuc 0) (901 ∷ 902 ∷ []) ∷ []))) ∷
    (printing (pushed_rows 1) gets prints (listing 2 (line 7 (pos 0) (901 ∷ 902 ∷ []) ∷ line 8 (negsuc 0) (902 ∷ 901 ∷ []) ∷ []))) ∷
    (printing (pushed_rows 2) gets prints (listing 2 (line 8 (negsuc 0) (902 ∷ 901 ∷ []) ∷ []))) ∷
    []

-- Each is answered as the table says.
abbrev pub DaysHold : Type 0
DaysHold = Hold ordering_rule days
