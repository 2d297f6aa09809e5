-- Bureaus worked through: the table, and the theorem that the call answers as the table says.
-- Rests on: the call, the grammar's books.
use Rattle.std.specs.Prelude.{ℕ, ◌≡◌, refl, length, ℤ, pos, negsuc}
use mathlib.Core.List.{List, [], ◌∷◌, map, flatten}
use Rattle.schedule.specs.Rows.{open_rows}
use Rattle.schedule.specs.Desk.{open_desk}
use Rattle.schedule.specs.Picks.{open_picks}
use Rattle.schedule.specs.Plans.{open_plans}
use Rattle.schedule.specs.Profiles.{open_profiles}
use Rattle.grammar.specs.Books.{book_of as book}
use Rattle.readers.specs.Reads.{open_reads}
use Rattle.results.specs.Results.{open_results}
use Rattle.outcomes.specs.Planning.{Outcome, gives}
use Rattle.calls.specs.Days.{entry}
use Rattle.several.specs.Answers.{SaidOfDesks, said_chosen, said_no_at}
use Rattle.several.specs.Calls.{open_several}
use Rattle.several_promises.specs.Table.{several}

-- What is lent and told, and what is said, with the buffer after it. The books stand end to end; where a length is told that is none of a
-- book's, it stands in `lengths`.
pub record Bureau : Type 0 where
  pub opening : ℕ
  pub books : List (List ℕ)
  pub lengths : List ℕ
  pub closings : List ℕ
  pub limit : ℕ
  pub buffer : List ℕ
  pub told : Outcome SaidOfDesks

abbrev pub bureau : List (List ℕ) → (closings : List ℕ) (limit : ℕ) (buffer : List ℕ) → Outcome SaidOfDesks → Bureau
bureau books closings limit b told = record {
  opening = 0;
  books = books;
  lengths = map (λ (ws : List ℕ). length ws) books;
  closings = closings;
  limit = limit;
  buffer = b;
  told = told;
}

abbrev pub worked_out : Bureau → Bureau
worked_out u = record {
  opening = u.opening;
  books = u.books;
  lengths = u.lengths;
  closings = u.closings;
  limit = u.limit;
  buffer = u.buffer;
  told = several u.opening (flatten u.books) u.lengths u.closings u.limit u.buffer;
}

-- M1, with the plans (11, 6) and (12, 0); M2, with the one plan (25, 0); M8, which is refused 8 at 6.
abbrev pub two_rows : (due : ℕ) → List ℕ
two_rows due = book 0 60 (entry 901 1 1 5 ∷ entry 902 0 10 due ∷ [])

abbrev pub three_rows : List ℕ
three_rows = book 0 60 (entry 901 1 1 5 ∷ entry 902 0 10 12 ∷ entry 903 20 5 27 ∷ [])

abbrev pub zeros : List ℕ
zeros = 0 ∷ 0 ∷ 0 ∷ 0 ∷ []

abbrev pub refused : (number place desk : ℕ) (buffer : List ℕ) → Outcome SaidOfDesks
refused n p d b = gives (said_no_at n p d) b

abbrev pub chosen : ℤ → ℕ → List ℕ → Outcome SaidOfDesks
chosen y o b = gives (said_chosen y o) b

abbrev pub bureaus : List Bureau
bureaus =
    -- Two desks with M1's rows, closing at 11 and 20. Without overtime desk 1 must end by 11 and is 6 late; desk 2 takes its first plan
    -- that is at most 6 late. With one minute both take their second plan, 0 late. The buffer's last word holds what it held.
    bureau (two_rows 12 ∷ two_rows 12 ∷ []) (11 ∷ 20 ∷ []) 0 (7 ∷ 7 ∷ 7 ∷ 7 ∷ 7 ∷ []) (chosen (pos 6) 0 (2 ∷ 1 ∷ 2 ∷ 1 ∷ 7 ∷ [])) ∷
    bureau (two_rows 12 ∷ two_rows 12 ∷ []) (11 ∷ 20 ∷ []) 1 zeros (chosen (pos 0) 1 (1 ∷ 2 ∷ 1 ∷ 2 ∷ [])) ∷
    -- The overtimes of both desks count: 1 and 1 pass a limit of 1. (2 is their sum where both take their second plan.)
    bureau (two_rows 12 ∷ two_rows 12 ∷ []) (11 ∷ 11 ∷ []) 1 zeros (chosen (pos 6) 0 (2 ∷ 1 ∷ 2 ∷ 1 ∷ [])) ∷
    bureau (two_rows 12 ∷ two_rows 12 ∷ []) (11 ∷ 11 ∷ []) 2 zeros (chosen (pos 0) 2 (1 ∷ 2 ∷ 1 ∷ 2 ∷ [])) ∷
    -- One desk. It ends at 11 at the soonest: a closing minute of 9 and a limit of 1 are not kept, a limit of 2 is, exactly.
    bureau (two_rows 12 ∷ []) (9 ∷ []) 1 zeros (refused 16 0 0 zeros) ∷
    bureau (two_rows 12 ∷ []) (9 ∷ []) 2 (0 ∷ 0 ∷ []) (chosen (pos 6) 2 (2 ∷ 1 ∷ [])) ∷
    -- Desk 1 with M2's rows has one plan, 0 late, and takes its order, 1 2 3: not the order for a bound of 6, which is 2 1 3.
    bureau (three_rows ∷ two_rows 12 ∷ []) (25 ∷ 11 ∷ []) 0 (0 ∷ 0 ∷ 0 ∷ 0 ∷ 0 ∷ []) (chosen (pos 6) 0 (1 ∷ 2 ∷ 3 ∷ 2 ∷ 1 ∷ [])) ∷
    -- All work is early: the greatest lateness is below 0.
    bureau (book 0 60 (entry 901 0 2 5 ∷ []) ∷ book 0 60 (entry 901 0 2 9 ∷ []) ∷ []) (0 ∷ 0 ∷ []) 4 (0 ∷ 0 ∷ [])
    (chosen (negsuc 2) 4 (1 ∷ 1 ∷ [])) ∷
    -- Refused by the book of desk 2, at its place there; the first refused book counts. A book of no words is cut.
    bureau (two_rows 12 ∷ two_rows 14 ∷ []) (11 ∷ 20 ∷ []) 0 zeros (refused 8 6 2 zeros) ∷
    bureau (two_rows 12 ∷ [] ∷ two_rows 14 ∷ []) (11 ∷ 20 ∷ 20 ∷ []) 0 zeros (refused 1 0 2 zeros) ∷
    -- After all books, the buffer; a short buffer comes before overtime, and after a refused book.
    bureau (two_rows 12 ∷ two_rows 12 ∷ []) (9 ∷ 9 ∷ []) 0 (7 ∷ 7 ∷ 7 ∷ []) (refused 9 0 0 (7 ∷ 7 ∷ 7 ∷ [])) ∷
    bureau (two_rows 12 ∷ two_rows 14 ∷ []) (9 ∷ 9 ∷ []) 0 (7 ∷ []) (refused 8 6 2 (7 ∷ [])) ∷
    -- Lent amiss: no desk, nine desks, a closing minute and a limit past the latest, unequal counts, lengths that do not add up.
    bureau [] [] 0 [] (refused 3 0 0 []) ∷
    bureau ([] ∷ [] ∷ [] ∷ [] ∷ [] ∷ [] ∷ [] ∷ [] ∷ [] ∷ []) (0 ∷ 0 ∷ 0 ∷ 0 ∷ 0 ∷ 0 ∷ 0 ∷ 0 ∷ 0 ∷ []) 0 [] (refused 3 0 0 []) ∷
    bureau (two_rows 12 ∷ []) (20000001 ∷ []) 0 zeros (refused 3 0 0 zeros) ∷
    bureau (two_rows 12 ∷ []) (20000000 ∷ []) 200000001 zeros (refused 3 0 0 zeros) ∷
    bureau (two_rows 12 ∷ []) (20000000 ∷ []) 200000000 (0 ∷ 0 ∷ []) (chosen (pos 0) 0 (1 ∷ 2 ∷ [])) ∷
    bureau (two_rows 12 ∷ []) (11 ∷ 11 ∷ []) 0 zeros (refused 3 0 0 zeros) ∷
    record {
      opening = 0;
      books = two_rows 12 ∷ [];
      lengths = 10 ∷ [];
      closings = 11 ∷ [];
      limit = 0;
      buffer = zeros;
      told = refused 3 0 0 zeros;
    } ∷
    -- One opening serves all desks: 31 is refused, with 1 both rows of M1 take a minute more and the soonest end is 13.
    record {
      opening = 31;
      books = two_rows 14 ∷ [];
      lengths = 11 ∷ [];
      closings = 11 ∷ [];
      limit = 0;
      buffer = zeros;
      told = refused 3 0 0 zeros;
    } ∷
    record {
      opening = 1;
      books = two_rows 12 ∷ [];
      lengths = 11 ∷ [];
      closings = 13 ∷ [];
      limit = 0;
      buffer = 0 ∷ 0 ∷ [];
      told = chosen (pos 8) 0 (2 ∷ 1 ∷ []);
    } ∷
    []

pub bureaus_hold : map worked_out bureaus ≡ bureaus
unfolding open_rows open_desk open_picks open_plans open_profiles open_reads open_results open_several flatten
bureaus_hold = refl
