-- The limits of a book, of the search and of several desks: by name, once.
-- Rests on nothing.
use Rattle.std.specs.Prelude.{ℕ, ◌+◌, ◌*◌, ◌≤◌, ℤ, negsuc}

-- A book has at most so many rows. A column that a row number reads has one place more: row numbers count from 1, and place 0 is for no
-- row.
abbrev pub most_rows : ℕ
most_rows = 256

abbrev pub row_places : ℕ
row_places = 257

-- The latest free minute and release, the longest length and the latest due of a book.
abbrev pub latest_minute : ℕ
latest_minute = 10000000

abbrev pub longest_length : ℕ
longest_length = 30000

abbrev pub latest_due : ℕ
latest_due = 20000000

-- The most pages of a row; the least and the most pace, in pages an hour.
abbrev pub most_pages : ℕ
most_pages = 2000

abbrev pub least_pace : ℕ
least_pace = 4

abbrev pub most_pace : ℕ
most_pace = 120

-- The most opening minutes that a call is told, and so the longest time that a row takes at the desk.
abbrev pub most_opening : ℕ
most_opening = 30

abbrev pub longest_time : ℕ
longest_time = 30030

-- So an order of a book's rows ends by the latest end, is late by no more than that, and by no less than the least lateness, -19,999,999.
abbrev pub latest_book_end : ℕ
latest_book_end = 17687680

abbrev pub least_lateness : ℤ
least_lateness = negsuc 19999998

-- The latest minute of a start on an open desk, the latest minute at which such a desk stands, and the latest end and lateness in planning:
-- a desk whose first start is at the latest minute takes the most rows of the longest time.
abbrev pub latest_start : ℕ
latest_start = 20000000

abbrev pub latest_stand : ℕ
latest_stand = 20030030

abbrev pub latest_end : ℕ
latest_end = 27687680

-- The latest lateness, that of the latest end and the due 0, raised by 2^31 as the machine holds it.
abbrev pub latest_raised : ℕ
latest_raised = 2147483648 + latest_end

-- The most desks that are planned together, the latest closing minute, and the largest overtime limit.
abbrev pub most_desks : ℕ
most_desks = 8

abbrev pub latest_closing : ℕ
latest_closing = 20000000

abbrev pub largest_limit : ℕ
largest_limit = 200000000

-- A desk at the minute t with n rows left: it ends by the latest end.
abbrev pub EndsInTime : ℕ → ℕ → Type 0
EndsInTime t n = t + longest_time * n ≤ latest_end
