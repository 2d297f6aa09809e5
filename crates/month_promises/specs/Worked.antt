-- Months worked through: the table, and the theorem that the report and its lines are as the table says.
-- Rests on: Shown, the grammar's books.
use Rattle.std.specs.Prelude.{ℕ, ◌≡◌, refl, List, [], ◌∷◌, map, ℤ, pos, negsuc}
use Rattle.schedule.specs.Rows.{open_rows}
use Rattle.schedule.specs.Desk.{open_desk}
use Rattle.schedule.specs.Picks.{open_picks}
use Rattle.schedule.specs.Plans.{open_plans}
use Rattle.schedule.specs.Profiles.{open_profiles}
use Rattle.grammar.specs.Books.{book_of as book}
use Rattle.readers.specs.Reads.{open_reads}
use Rattle.postings.specs.Posting.{open_posting}
use Rattle.outcomes.specs.Outcomes.{open_outcomes}
use Rattle.calls.specs.Days.{entry}
use Rattle.day_result.specs.DayResults.{open_day_results}
use Rattle.totals.specs.Report.{Report, open_report}
use Rattle.totals.specs.Mean.{Mean, mean_of, open_mean}
use Rattle.month_input.specs.Layout.{PostedDay, open_layout}
use Rattle.month_input.specs.WrittenMonth.{bytes_of, month_words, open_written_month}
use Rattle.report_lines.specs.ReportBytes.{open_report_bytes}
use Rattle.month_promises.specs.Shown.{month_report, shown, open_shown}

-- The days of a month, its report, and the mean of its worst latenesses over the accepted days, 0 if there is none.
pub record Month : Type 0 where
  pub days : List PostedDay
  pub report : Report
  pub mean : Mean

abbrev pub comes_to : List PostedDay → (accepted refused beaten idle : ℕ) (late quotient : ℤ) (remainder : ℕ) → Month
comes_to days a r b i y q m = record {
  days = days;
  report = record { accepted = a; refused = r; beaten = b; idle = i; late = y };
  mean = record { quotient = q; remainder = m };
}

abbrev pub worked_out : Month → Month
worked_out m = record {
  days = m.days;
  report = month_report m.days;
  mean = mean_of (month_report m.days).late (month_report m.days).accepted;
}

-- M1 posted so; M2 posted so; a row that is released at 20 and due at a minute.
abbrev pub two : List ℕ → PostedDay
two posting = record { book = book 0 60 (entry 901 1 1 5 ∷ entry 902 0 10 12 ∷ []); posting = posting }

abbrev pub three : List ℕ → PostedDay
three posting = record { book = book 0 60 (entry 901 1 1 5 ∷ entry 902 0 10 12 ∷ entry 903 20 5 27 ∷ []); posting = posting }

abbrev pub one : (due : ℕ) → PostedDay
one due = record { book = book 0 60 (entry 911 20 5 due ∷ []); posting = 1 ∷ [] }

abbrev pub week : List PostedDay
week = two (2 ∷ 1 ∷ []) ∷ one 99 ∷ three (2 ∷ 1 ∷ 3 ∷ []) ∷ two (1 ∷ 1 ∷ []) ∷ []

abbrev pub months : List Month
months =
    -- No day.
    comes_to [] 0 0 0 0 (pos 0) (pos 0) 0 ∷
    -- The four days of docs/MONTH.md, and the same the other way round.
    comes_to week 3 1 1 29 (negsuc 61) (negsuc 20) 1 ∷
    comes_to (two (1 ∷ 1 ∷ []) ∷ three (2 ∷ 1 ∷ 3 ∷ []) ∷ one 99 ∷ two (2 ∷ 1 ∷ []) ∷ []) 3 1 1 29 (negsuc 61) (negsuc 20) 1 ∷
    -- -57 over 4 is -15 remainder 3: one day 63 early, and three that are 6, 0 and 0 late.
    comes_to (one 88 ∷ two (2 ∷ 1 ∷ []) ∷ two (1 ∷ 2 ∷ []) ∷ three (1 ∷ 2 ∷ 3 ∷ []) ∷ []) 4 0 0 30 (negsuc 56) (negsuc 14) 3 ∷
    -- Exact division, above and below zero; a sum of zero.
    comes_to (two (2 ∷ 1 ∷ []) ∷ two (2 ∷ 1 ∷ []) ∷ []) 2 0 0 0 (pos 12) (pos 6) 0 ∷
    comes_to (one 29 ∷ one 33 ∷ []) 2 0 0 40 (negsuc 11) (negsuc 5) 0 ∷
    comes_to (two (2 ∷ 1 ∷ []) ∷ one 31 ∷ []) 2 0 0 20 (pos 0) (pos 0) 0 ∷
    -- Refused days: by the posting (too short, a row that is none) and by the book (cut, empty).
    comes_to (two (1 ∷ []) ∷ two (1 ∷ 3 ∷ []) ∷ record { book = 536870912 ∷ []; posting = [] } ∷ record { book = []; posting = [] } ∷ [])
    0 4 0 0 (pos 0) (pos 0) 0 ∷
    -- Beaten: another order of M2's rows ends as soon and is less late; one of M1's that ends sooner does not beat it, being later.
    comes_to (three (2 ∷ 1 ∷ 3 ∷ []) ∷ two (1 ∷ 2 ∷ []) ∷ []) 2 0 1 10 (pos 6) (pos 3) 0 ∷
    []

pub months_hold : map worked_out months ≡ months
unfolding open_rows open_desk open_picks open_plans open_profiles open_reads open_posting open_outcomes open_day_results open_report open_mean
months_hold = refl

-- The week as docs/MONTH.md has it: the bytes of its days, and all that is printed of them.
pub week_bytes : bytes_of (month_words week) ≡
    11 ∷ 0 ∷ 0 ∷ 0 ∷ 0 ∷ 0 ∷ 0 ∷ 32 ∷ 60 ∷ 0 ∷ 0 ∷ 64 ∷ 133 ∷ 3 ∷ 0 ∷ 96 ∷ 1 ∷ 0 ∷ 0 ∷ 128 ∷
    1 ∷ 0 ∷ 0 ∷ 160 ∷ 5 ∷ 0 ∷ 0 ∷ 192 ∷ 134 ∷ 3 ∷ 0 ∷ 96 ∷ 0 ∷ 0 ∷ 0 ∷ 128 ∷ 10 ∷ 0 ∷ 0 ∷ 160 ∷
    12 ∷ 0 ∷ 0 ∷ 192 ∷ 2 ∷ 0 ∷ 0 ∷ 224 ∷ 2 ∷ 0 ∷ 0 ∷ 0 ∷ 2 ∷ 0 ∷ 0 ∷ 0 ∷ 1 ∷ 0 ∷ 0 ∷ 0 ∷
    7 ∷ 0 ∷ 0 ∷ 0 ∷ 0 ∷ 0 ∷ 0 ∷ 32 ∷ 60 ∷ 0 ∷ 0 ∷ 64 ∷ 143 ∷ 3 ∷ 0 ∷ 96 ∷ 20 ∷ 0 ∷ 0 ∷ 128 ∷
    5 ∷ 0 ∷ 0 ∷ 160 ∷ 99 ∷ 0 ∷ 0 ∷ 192 ∷ 1 ∷ 0 ∷ 0 ∷ 224 ∷ 1 ∷ 0 ∷ 0 ∷ 0 ∷ 1 ∷ 0 ∷ 0 ∷ 0 ∷
    15 ∷ 0 ∷ 0 ∷ 0 ∷ 0 ∷ 0 ∷ 0 ∷ 32 ∷ 60 ∷ 0 ∷ 0 ∷ 64 ∷ 133 ∷ 3 ∷ 0 ∷ 96 ∷ 1 ∷ 0 ∷ 0 ∷ 128 ∷
    1 ∷ 0 ∷ 0 ∷ 160 ∷ 5 ∷ 0 ∷ 0 ∷ 192 ∷ 134 ∷ 3 ∷ 0 ∷ 96 ∷ 0 ∷ 0 ∷ 0 ∷ 128 ∷ 10 ∷ 0 ∷ 0 ∷ 160 ∷
    12 ∷ 0 ∷ 0 ∷ 192 ∷ 135 ∷ 3 ∷ 0 ∷ 96 ∷ 20 ∷ 0 ∷ 0 ∷ 128 ∷ 5 ∷ 0 ∷ 0 ∷ 160 ∷ 27 ∷ 0 ∷ 0 ∷ 192 ∷
    3 ∷ 0 ∷ 0 ∷ 224 ∷ 3 ∷ 0 ∷ 0 ∷ 0 ∷ 2 ∷ 0 ∷ 0 ∷ 0 ∷ 1 ∷ 0 ∷ 0 ∷ 0 ∷ 3 ∷ 0 ∷ 0 ∷ 0 ∷
    11 ∷ 0 ∷ 0 ∷ 0 ∷ 0 ∷ 0 ∷ 0 ∷ 32 ∷ 60 ∷ 0 ∷ 0 ∷ 64 ∷ 133 ∷ 3 ∷ 0 ∷ 96 ∷ 1 ∷ 0 ∷ 0 ∷ 128 ∷
    1 ∷ 0 ∷ 0 ∷ 160 ∷ 5 ∷ 0 ∷ 0 ∷ 192 ∷ 134 ∷ 3 ∷ 0 ∷ 96 ∷ 0 ∷ 0 ∷ 0 ∷ 128 ∷ 10 ∷ 0 ∷ 0 ∷ 160 ∷
    12 ∷ 0 ∷ 0 ∷ 192 ∷ 2 ∷ 0 ∷ 0 ∷ 224 ∷ 2 ∷ 0 ∷ 0 ∷ 0 ∷ 1 ∷ 0 ∷ 0 ∷ 0 ∷ 1 ∷ 0 ∷ 0 ∷ 0 ∷ []
unfolding open_written_month
week_bytes = refl

pub week_lines : shown (bytes_of (month_words week)) ≡
    100 ∷ 97 ∷ 121 ∷ 115 ∷ 32 ∷ 52 ∷ 32 ∷ 97 ∷ 99 ∷ 99 ∷ 101 ∷ 112 ∷ 116 ∷ 101 ∷
    100 ∷ 32 ∷ 51 ∷ 32 ∷ 114 ∷ 101 ∷ 102 ∷ 117 ∷ 115 ∷ 101 ∷ 100 ∷ 32 ∷ 49 ∷ 10 ∷
    98 ∷ 101 ∷ 97 ∷ 116 ∷ 101 ∷ 110 ∷ 32 ∷ 49 ∷ 10 ∷
    105 ∷ 100 ∷ 108 ∷ 101 ∷ 32 ∷ 50 ∷ 57 ∷ 10 ∷
    108 ∷ 97 ∷ 116 ∷ 101 ∷ 32 ∷ 45 ∷ 54 ∷ 50 ∷ 10 ∷
    109 ∷ 101 ∷ 97 ∷ 110 ∷ 32 ∷ 45 ∷ 50 ∷ 49 ∷ 32 ∷ 114 ∷ 101 ∷ 109 ∷ 97 ∷ 105 ∷ 110 ∷ 100 ∷ 101 ∷ 114 ∷ 32 ∷ 49 ∷ 10 ∷ []
unfolding open_rows open_desk open_picks open_plans open_profiles open_reads open_posting open_outcomes open_day_results open_report open_report_bytes
    open_layout open_written_month open_shown
week_lines = refl
