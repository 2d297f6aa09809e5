-- Mornings worked through on an open desk: the table, and the theorem that every call of every morning is answered as the table says.
-- Rests on: History, the grammar's books.
use Rattle.std.specs.Prelude.{ℕ, ◌≡◌, refl, List, [], ◌∷◌, map, replicate, ℤ, pos, negsuc}
use Rattle.std.proofs.Math.Option.{Option, none, some}
use Rattle.schedule.specs.Rows.{open_rows}
use Rattle.schedule.specs.Desk.{open_desk}
use Rattle.schedule.specs.Picks.{open_picks}
use Rattle.schedule.specs.Plans.{open_plans}
use Rattle.grammar.specs.Books.{book_of as book}
use Rattle.readers.specs.Reads.{open_reads}
use Rattle.results.specs.Results.{open_results}
use Rattle.outcomes.specs.Planning.{Outcome, gives}
use Rattle.outcomes.specs.Outcomes.{open_outcomes}
use Rattle.calls.specs.Answers.{Said}
use Rattle.calls.specs.Days.{entry, sold}
use Rattle.running.specs.Words.{desk_words, running}
use Rattle.desk_open.specs.Opens.{open_opens}
use Rattle.desk_start.specs.Starts.{open_starts}
use Rattle.rows_left.specs.Left.{can_plan, plans_here}
use Rattle.desk_pace.specs.Paces.{open_paces}
use Rattle.desk_plans.specs.Plans.{open_desk_plans}
use Rattle.open_desk.specs.History.{desk_open, desk_start, desk_pace, desk_list, desk_plan, Call, starts, paces, lists, orders}
use Rattle.open_desk.specs.History.{after_call, after, open_history}

-- A call of the table with its reply: what it says, and the buffer after it. (The calls that open a desk, start a row and change the pace
-- have none.)
pub record Asked : Type 0 where
  pub call : Call
  pub reply : Outcome Said

abbrev pub ◌gets◌ : Call → Outcome Said → Asked
c gets r = record { call = c; reply = r }

infix 10 ◌gets◌
-- A morning: the book and the opening minutes that a desk is opened with, the reply to that, the calls in turn, and what the desk then
-- holds: the rows left, its minute, and the worst lateness so far.
pub record Morning : Type 0 where
  pub book : List ℕ
  pub opening : ℕ
  pub told : Outcome Said
  pub calls : List Asked
  pub holds : List ℕ × ℕ × Option ℤ

-- How replies are written in the table, field by field: number, place, count, end, late, minute. A desk is opened: the count of rows, and
-- its minute. A row is started: the desk's new minute, and the worst lateness so far. The pace is changed. Plans, an order's end and
-- lateness, and a refusal, each with the buffer.
abbrev pub said : (number place count end : ℕ) → (late : ℤ) → (minute : ℕ) → Said
said n p k e y t = record { number = n; place = p; count = k; end = e; late = y; minute = t }

abbrev pub opened : ℕ → ℕ → Outcome Said
opened k t = gives (said 0 0 k 0 (pos 0) t) []

abbrev pub moved : ℕ → ℤ → Outcome Said
moved t y = gives (said 0 0 0 0 y t) []

abbrev pub changed : Outcome Said
changed = gives (said 0 0 0 0 (pos 0) 0) []

abbrev pub plans : ℕ → List ℕ → Outcome Said
plans k b = gives (said 0 0 k 0 (pos 0) 0) b

abbrev pub order : ℕ → ℤ → List ℕ → Outcome Said
order e y b = gives (said 0 0 0 e y 0) b

abbrev pub refused : ℕ → ℕ → List ℕ → Outcome Said
refused n p b = gives (said n p 0 0 (pos 0) 0) b

-- The reply that the definitions give to a call on a desk's words, and to calls one after another.
abbrev pub reply_to : List ℕ → Call → Outcome Said
reply_to ws (starts i m) = gives (desk_start ws i m).answer []
reply_to ws (paces p) = gives (desk_pace ws p).answer []
reply_to ws (lists b) = desk_list ws b
reply_to ws (orders k b) = desk_plan ws k b

abbrev pub answered : List ℕ → List Asked → List Asked
answered ws [] = []
answered ws (a ∷ rest) = (a.call gets reply_to ws a.call) ∷ answered (after_call ws a.call) rest

-- A morning as the definitions give it, on 1,288 words that are all 0 before the desk is opened.
abbrev pub worked_out : Morning → Morning
worked_out m =
    let first = desk_open m.opening m.book (replicate desk_words 0) in
    let last = running (after first.buffer (map (λ (a : Asked). a.call) m.calls)) in
    record {
      book = m.book;
      opening = m.opening;
      told = gives first.answer [];
      calls = answered first.buffer m.calls;
      holds = (last.left, last.minute, last.worst);
    }

-- M1's book, with the due of row 2 open for M8; M2; M10; M13. Two rows as long as a row can be, due at 0. A row sold in a class.
abbrev pub two_rows : ℕ → List ℕ
two_rows due = book 0 60 (entry 901 1 1 5 ∷ entry 902 0 10 due ∷ [])

abbrev pub three_rows : List ℕ
three_rows = book 0 60 (entry 901 1 1 5 ∷ entry 902 0 10 12 ∷ entry 903 20 5 27 ∷ [])

abbrev pub equal_rows : List ℕ
equal_rows = book 0 60 (entry 901 0 2 5 ∷ entry 902 0 2 5 ∷ [])

abbrev pub four_rows : List ℕ
four_rows = book 0 60 (entry 901 1 1 5 ∷ entry 902 0 10 12 ∷ entry 903 101 1 104 ∷ entry 904 100 20 122 ∷ [])

abbrev pub long_rows : List ℕ
long_rows = book 10000000 4 (entry 901 0 2000 0 ∷ entry 902 0 2000 0 ∷ [])

abbrev pub class_row : List ℕ
class_row = book 0 60 (sold 901 10 5 0 ∷ [])

-- Rows of one class, due 60 minutes after release and length: rows 1 to 3 at pace 60 take 2, 1 and 2. The same with one row more above.
abbrev pub sold_rows : List ℕ
sold_rows = book 0 60 (sold 901 0 2 0 ∷ sold 902 2 1 0 ∷ sold 903 2 2 0 ∷ [])

abbrev pub sold_below : List ℕ
sold_below = book 0 60 (sold 901 0 1 0 ∷ sold 902 0 2 0 ∷ sold 903 2 1 0 ∷ [])

-- Rows with two plans at pace 60 and one at pace 30; with one plan at both, of another order; with one at pace 60 and two at pace 30.
abbrev pub two_then_one : List ℕ
two_then_one = book 0 60 (sold 901 2 1 0 ∷ sold 902 0 1 0 ∷ sold 903 1 4 0 ∷ [])

abbrev pub other_order : List ℕ
other_order = book 0 60 (entry 901 0 4 2 ∷ entry 902 2 1 1 ∷ entry 903 0 1 0 ∷ [])

abbrev pub one_then_two : List ℕ
one_then_two = book 0 60 (entry 901 1 6 3 ∷ entry 902 0 1 0 ∷ entry 903 3 1 1 ∷ [])

abbrev pub mornings : List Morning
mornings =
    -- Row 1 starts at its release; of two plans one is left. After the last row there are no plans: every plan's number is refused.
    record {
      book = two_rows 12;
      opening = 0;
      told = opened 2 0;
      calls =
          (lists (0 ∷ 0 ∷ 0 ∷ 0 ∷ []) gets plans 2 (11 ∷ 6 ∷ 12 ∷ 0 ∷ [])) ∷
          (starts 1 1 gets moved 2 (negsuc 2)) ∷
          (lists (0 ∷ 0 ∷ 7 ∷ []) gets plans 1 (12 ∷ 0 ∷ 7 ∷ [])) ∷
          (orders 1 (0 ∷ []) gets order 12 (pos 0) (2 ∷ [])) ∷
          (starts 2 2 gets moved 12 (pos 0)) ∷
          (lists [] gets plans 0 []) ∷
          (lists (7 ∷ []) gets plans 0 (7 ∷ [])) ∷
          (orders 0 [] gets refused 11 0 []) ∷
          (orders 1 (7 ∷ []) gets refused 11 0 (7 ∷ [])) ∷
          [];
      holds = ([], 12, some (pos 0));
    } ∷
    -- The desk stands idle before a start, as long as the reader likes; the list goes on from the end of that row.
    record {
      book = two_rows 12;
      opening = 0;
      told = opened 2 0;
      calls =
          (starts 2 4 gets moved 14 (pos 2)) ∷
          (lists (0 ∷ 0 ∷ []) gets plans 1 (15 ∷ 10 ∷ [])) ∷
          (starts 1 20 gets moved 21 (pos 16)) ∷
          [];
      holds = ([], 21, some (pos 16));
    } ∷
    -- Refused starts: no such row, with the count of all rows; before the release; past 20,000,000; a row started before, whatever the
    -- minute; before the desk's minute. The desk goes on as if they had not been called.
    record {
      book = two_rows 12;
      opening = 0;
      told = opened 2 0;
      calls =
          (starts 0 0 gets refused 11 2 []) ∷
          (starts 3 0 gets refused 11 2 []) ∷
          (starts 1 0 gets refused 15 0 []) ∷
          (starts 2 20000001 gets refused 15 0 []) ∷
          (starts 2 0 gets moved 10 (negsuc 1)) ∷
          (starts 2 0 gets refused 14 2 []) ∷
          (starts 2 10 gets refused 14 2 []) ∷
          (starts 1 9 gets refused 15 0 []) ∷
          (starts 1 10 gets moved 11 (pos 6)) ∷
          (starts 3 11 gets refused 11 2 []) ∷
          [];
      holds = ([], 11, some (pos 6));
    } ∷
    -- Early work: the worst lateness so far is none, then -3, then -1. The row left keeps its number.
    record {
      book = equal_rows;
      opening = 0;
      told = opened 2 0;
      calls = [];
      holds = (1 ∷ 2 ∷ [], 0, none);
    } ∷
    record {
      book = equal_rows;
      opening = 0;
      told = opened 2 0;
      calls =
          (starts 1 0 gets moved 2 (negsuc 2)) ∷
          (lists (0 ∷ 0 ∷ []) gets plans 1 (4 ∷ 4294967295 ∷ [])) ∷
          (orders 1 (0 ∷ []) gets order 4 (negsuc 0) (2 ∷ [])) ∷
          (starts 2 2 gets moved 4 (negsuc 0)) ∷
          [];
      holds = ([], 4, some (negsuc 0));
    } ∷
    -- The list has the latenesses of the rows left alone: -2, where the worst so far is 6 and stays so.
    record {
      book = three_rows;
      opening = 0;
      told = opened 3 0;
      calls =
          (starts 2 0 gets moved 10 (negsuc 1)) ∷
          (starts 1 10 gets moved 11 (pos 6)) ∷
          (lists (0 ∷ 0 ∷ []) gets plans 1 (25 ∷ 4294967294 ∷ [])) ∷
          (starts 3 20 gets moved 25 (pos 6)) ∷
          [];
      holds = ([], 25, some (pos 6));
    } ∷
    -- Mid-morning: two plans before, two of the rows left, then one. A buffer is measured by the rows left: two words for each in a list,
    -- one in an order. A plan's number is looked at before the buffer.
    record {
      book = four_rows;
      opening = 0;
      told = opened 4 0;
      calls =
          (lists (0 ∷ 0 ∷ 0 ∷ 0 ∷ 0 ∷ 0 ∷ 0 ∷ []) gets refused 9 0 (0 ∷ 0 ∷ 0 ∷ 0 ∷ 0 ∷ 0 ∷ 0 ∷ [])) ∷
          (lists (0 ∷ 0 ∷ 0 ∷ 0 ∷ 0 ∷ 0 ∷ 0 ∷ 0 ∷ []) gets plans 2 (121 ∷ 17 ∷ 122 ∷ 0 ∷ 0 ∷ 0 ∷ 0 ∷ 0 ∷ [])) ∷
          (starts 1 1 gets moved 2 (negsuc 2)) ∷
          (starts 2 2 gets moved 12 (pos 0)) ∷
          (lists (0 ∷ 0 ∷ 0 ∷ []) gets refused 9 0 (0 ∷ 0 ∷ 0 ∷ [])) ∷
          (lists (0 ∷ 0 ∷ 0 ∷ 0 ∷ []) gets plans 2 (121 ∷ 17 ∷ 122 ∷ 0 ∷ [])) ∷
          (orders 1 (0 ∷ 0 ∷ []) gets order 121 (pos 17) (4 ∷ 3 ∷ [])) ∷
          (orders 2 (0 ∷ 0 ∷ []) gets order 122 (pos 0) (3 ∷ 4 ∷ [])) ∷
          (orders 2 (0 ∷ []) gets refused 9 0 (0 ∷ [])) ∷
          (orders 3 (0 ∷ []) gets refused 11 2 (0 ∷ [])) ∷
          (starts 3 101 gets moved 102 (pos 0)) ∷
          (lists (0 ∷ []) gets refused 9 0 (0 ∷ [])) ∷
          (lists (0 ∷ 0 ∷ []) gets plans 1 (122 ∷ 0 ∷ [])) ∷
          [];
      holds = (4 ∷ [], 102, some (pos 0));
    } ∷
    -- Past minute 20,000,000: the latest start of the longest row. The list goes on; no further row can be started.
    record {
      book = long_rows;
      opening = 0;
      told = opened 2 10000000;
      calls =
          (starts 1 20000000 gets moved 20030000 (pos 20030000)) ∷
          (lists (0 ∷ 0 ∷ []) gets plans 1 (20060000 ∷ 20060000 ∷ [])) ∷
          (orders 1 (0 ∷ []) gets order 20060000 (pos 20060000) (2 ∷ [])) ∷
          (starts 2 20030000 gets refused 15 0 []) ∷
          (starts 2 20000000 gets refused 15 0 []) ∷
          [];
      holds = (2 ∷ [], 20030000, some (pos 20030000));
    } ∷
    -- The same with the most opening minutes: the latest minute at which a desk stands.
    record {
      book = long_rows;
      opening = 30;
      told = opened 2 10000000;
      calls =
          (starts 1 20000000 gets moved 20030030 (pos 20030030)) ∷
          (lists (0 ∷ 0 ∷ []) gets plans 1 (20060060 ∷ 20060060 ∷ [])) ∷
          (orders 1 (0 ∷ []) gets order 20060060 (pos 20060060) (2 ∷ [])) ∷
          (starts 2 20030030 gets refused 15 0 []) ∷
          [];
      holds = (2 ∷ [], 20030030, some (pos 20030030));
    } ∷
    -- One opening minute: each start moves the desk by one minute more than the length, and the list counts it for each row left.
    record {
      book = two_rows 12;
      opening = 1;
      told = opened 2 0;
      calls =
          (lists (0 ∷ 0 ∷ 0 ∷ 0 ∷ []) gets plans 2 (13 ∷ 8 ∷ 14 ∷ 2 ∷ [])) ∷
          (orders 1 (0 ∷ 0 ∷ []) gets order 13 (pos 8) (2 ∷ 1 ∷ [])) ∷
          (orders 2 (0 ∷ 0 ∷ []) gets order 14 (pos 2) (1 ∷ 2 ∷ [])) ∷
          (starts 1 1 gets moved 3 (negsuc 1)) ∷
          (lists (0 ∷ 0 ∷ 7 ∷ []) gets plans 1 (14 ∷ 2 ∷ 7 ∷ [])) ∷
          (orders 1 (0 ∷ []) gets order 14 (pos 2) (2 ∷ [])) ∷
          (starts 2 2 gets refused 15 0 []) ∷
          (starts 2 3 gets moved 14 (pos 2)) ∷
          [];
      holds = ([], 14, some (pos 2));
    } ∷
    -- One book without opening minutes and with thirty: another order is then the plan.
    record {
      book = three_rows;
      opening = 0;
      told = opened 3 0;
      calls =
          (lists (0 ∷ 0 ∷ 0 ∷ 0 ∷ 0 ∷ 0 ∷ []) gets plans 1 (25 ∷ 0 ∷ 0 ∷ 0 ∷ 0 ∷ 0 ∷ [])) ∷
          (orders 1 (0 ∷ 0 ∷ 0 ∷ []) gets order 25 (pos 0) (1 ∷ 2 ∷ 3 ∷ [])) ∷
          [];
      holds = (1 ∷ 2 ∷ 3 ∷ [], 0, none);
    } ∷
    record {
      book = three_rows;
      opening = 30;
      told = opened 3 0;
      calls =
          (lists (0 ∷ 0 ∷ 0 ∷ 0 ∷ 0 ∷ 0 ∷ []) gets plans 1 (106 ∷ 79 ∷ 0 ∷ 0 ∷ 0 ∷ 0 ∷ [])) ∷
          (orders 1 (0 ∷ 0 ∷ 0 ∷ []) gets order 106 (pos 79) (2 ∷ 1 ∷ 3 ∷ [])) ∷
          (starts 2 0 gets moved 40 (pos 28)) ∷
          (starts 1 40 gets moved 71 (pos 66)) ∷
          (lists (0 ∷ 0 ∷ []) gets plans 1 (106 ∷ 79 ∷ [])) ∷
          (starts 3 71 gets moved 106 (pos 79)) ∷
          [];
      holds = ([], 106, some (pos 79));
    } ∷
    -- Opening minutes past 30 are refused whatever the book is, also words that are none: nothing is written, and the words are no desk.
    record {
      book = two_rows 12;
      opening = 31;
      told = refused 3 0 [];
      calls = (starts 1 1 gets refused 3 0 []) ∷ [];
      holds = ([], 0, none);
    } ∷
    record {
      book = 7 ∷ [];
      opening = 31;
      told = refused 3 0 [];
      calls = [];
      holds = ([], 0, none);
    } ∷
    -- A class due: row 1 is due 75.
    record {
      book = class_row;
      opening = 0;
      told = opened 1 0;
      calls = (starts 1 10 gets moved 15 (negsuc 59)) ∷ [];
      holds = ([], 15, some (negsuc 59));
    } ∷
    -- A new reader at noon. A class book: at pace 30 rows 1 and 2 take 4 and 2 minutes, their dues stay 62 and 63, and so row 2 has the
    -- larger due and the larger spare, 59 against 58: refused 8 at its number word, and the desk goes on at pace 60. Once row 1 is done the
    -- rows left agree: they take 2 and 4 minutes from then on, row 1 keeps its end and its lateness, and no due is worked out again.
    record {
      book = sold_rows;
      opening = 0;
      told = opened 3 0;
      calls =
          (paces 30 gets refused 8 6 []) ∷
          (starts 1 0 gets moved 2 (negsuc 59)) ∷
          (lists (0 ∷ 0 ∷ 0 ∷ 0 ∷ []) gets plans 1 (5 ∷ 4294967237 ∷ 0 ∷ 0 ∷ [])) ∷
          (paces 30 gets changed) ∷
          (lists (0 ∷ 0 ∷ 0 ∷ 0 ∷ []) gets plans 1 (8 ∷ 4294967240 ∷ 0 ∷ 0 ∷ [])) ∷
          (orders 1 (0 ∷ 0 ∷ []) gets order 8 (negsuc 55) (2 ∷ 3 ∷ [])) ∷
          (starts 2 2 gets moved 4 (negsuc 58)) ∷
          (starts 3 4 gets moved 8 (negsuc 55)) ∷
          [];
      holds = ([], 8, some (negsuc 55));
    } ∷
    -- The place is that of the row in the book, and rows done are not looked at: row 3 disagrees with row 2, row 1 is done.
    record {
      book = sold_below;
      opening = 0;
      told = opened 3 0;
      calls =
          (starts 1 0 gets moved 1 (negsuc 59)) ∷
          (paces 30 gets refused 8 10 []) ∷
          (starts 2 1 gets moved 3 (negsuc 58)) ∷
          (paces 30 gets changed) ∷
          (starts 3 3 gets moved 5 (negsuc 57)) ∷
          (paces 60 gets changed) ∷
          [];
      holds = ([], 5, some (negsuc 57));
    } ∷
    -- Paces outside 4 to 120 are refused. The pace in force is accepted, and so is the way back: the plans are what they were.
    record {
      book = two_then_one;
      opening = 0;
      told = opened 3 0;
      calls =
          (lists (0 ∷ 0 ∷ 0 ∷ 0 ∷ 0 ∷ 0 ∷ []) gets plans 2 (6 ∷ 4294967239 ∷ 7 ∷ 4294967238 ∷ 0 ∷ 0 ∷ [])) ∷
          (paces 3 gets refused 3 0 []) ∷
          (paces 121 gets refused 3 0 []) ∷
          (paces 60 gets changed) ∷
          (paces 30 gets changed) ∷
          (lists (0 ∷ 0 ∷ 0 ∷ 0 ∷ 0 ∷ 0 ∷ []) gets plans 1 (12 ∷ 4294967243 ∷ 0 ∷ 0 ∷ 0 ∷ 0 ∷ [])) ∷
          (orders 1 (0 ∷ 0 ∷ 0 ∷ []) gets order 12 (negsuc 52) (2 ∷ 1 ∷ 3 ∷ [])) ∷
          (paces 60 gets changed) ∷
          (orders 1 (0 ∷ 0 ∷ 0 ∷ []) gets order 6 (negsuc 56) (2 ∷ 3 ∷ 1 ∷ [])) ∷
          [];
      holds = (1 ∷ 2 ∷ 3 ∷ [], 0, none);
    } ∷
    -- The order of the one plan changes; and one plan becomes two.
    record {
      book = other_order;
      opening = 0;
      told = opened 3 0;
      calls =
          (orders 1 (0 ∷ 0 ∷ 0 ∷ []) gets order 6 (pos 5) (3 ∷ 1 ∷ 2 ∷ [])) ∷
          (paces 30 gets changed) ∷
          (orders 1 (0 ∷ 0 ∷ 0 ∷ []) gets order 12 (pos 10) (3 ∷ 2 ∷ 1 ∷ [])) ∷
          [];
      holds = (1 ∷ 2 ∷ 3 ∷ [], 0, none);
    } ∷
    record {
      book = one_then_two;
      opening = 0;
      told = opened 3 0;
      calls =
          (lists (0 ∷ 0 ∷ 0 ∷ 0 ∷ 0 ∷ 0 ∷ []) gets plans 1 (8 ∷ 7 ∷ 0 ∷ 0 ∷ 0 ∷ 0 ∷ [])) ∷
          (paces 30 gets changed) ∷
          (lists (0 ∷ 0 ∷ 0 ∷ 0 ∷ 0 ∷ 0 ∷ []) gets plans 2 (16 ∷ 15 ∷ 17 ∷ 14 ∷ 0 ∷ 0 ∷ [])) ∷
          [];
      holds = (1 ∷ 2 ∷ 3 ∷ [], 0, none);
    } ∷
    -- Opening minutes stay: 1 and the length by the new pace. Lengths are rounded to the nearest minute, as a book's: at pace 50, 10 pages
    -- take 12 and 1 page takes 1. At pace 120 they would take 5 and 1, and row 2 would have more spare than row 1.
    record {
      book = two_rows 12;
      opening = 1;
      told = opened 2 0;
      calls =
          (paces 120 gets refused 8 6 []) ∷
          (paces 50 gets changed) ∷
          (starts 2 0 gets moved 13 (pos 1)) ∷
          (starts 1 13 gets moved 15 (pos 10)) ∷
          [];
      holds = ([], 15, some (pos 10));
    } ∷
    -- M8's book is refused: nothing is written, and the words are no desk.
    record {
      book = two_rows 14;
      opening = 0;
      told = refused 8 6 [];
      calls =
          (starts 1 1 gets refused 3 0 []) ∷
          (paces 60 gets refused 3 0 []) ∷
          (lists (7 ∷ []) gets refused 3 0 (7 ∷ [])) ∷
          (orders 1 (7 ∷ []) gets refused 3 0 (7 ∷ [])) ∷
          [];
      holds = ([], 0, none);
    } ∷
    []

pub mornings_hold : map worked_out mornings ≡ mornings
unfolding open_rows open_desk open_picks open_plans open_reads open_results open_outcomes open_opens open_starts open_paces can_plan plans_here
    open_desk_plans open_history
mornings_hold = refl
