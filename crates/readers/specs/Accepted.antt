-- What is known of an accepted day: its rows keep the rule of the profile as planning sees them, and every number is in its range. The
-- proof is `accepted_day`, in proofs/Accepted.antt. Rests on: Reads, the schedule's rows and profiles.
use Rattle.std.specs.Prelude.{ℕ, ◌≤◌, ◌<◌, ◌≡◌, length}
use mathlib.Core.List.{List, Memᴰ}
use Rattle.schedule.specs.Limits.{most_rows, latest_minute, longest_length, latest_due, most_pages, most_opening}
use Rattle.schedule.specs.Rows.{row, job, Day, jobs, row_numbers}
use Rattle.schedule.specs.Profiles.{Obeys}
use Rattle.book.specs.Rows.{accepted}
use Rattle.readers.specs.declared.Terms.{Terms}
use Rattle.readers.specs.Reads.{read_by}

pub record AcceptedDay (terms : Terms) (day : Day) : Type 0 where
  -- The opening minutes.
  pub opening : terms.opening ≤ most_opening
  -- The rule of the rows.
  pub rule : Obeys terms.profile (jobs terms.opening day) (row_numbers day)
  -- The free minute.
  pub early : day.free ≤ latest_minute
  -- 1 to 256 rows.
  pub some_row : 0 < length day.rows
  pub few_rows : length day.rows ≤ most_rows
  -- Release, length and due of each row. Length lies between 1 and 30,000.
  pub ranged : (i : ℕ) → Memᴰ i (row_numbers day) →
      ((job day.rows i).release ≤ latest_minute) × (1 ≤ (job day.rows i).length) ×
      ((job day.rows i).length ≤ longest_length) × ((job day.rows i).due ≤ latest_due)
  -- The pages of each row.
  pub pages : (i : ℕ) → Memᴰ i (row_numbers day) → (1 ≤ (row day.rows i).pages) × ((row day.rows i).pages ≤ most_pages)
  -- The same limits for every number, also one that no row has.
  pub limits : (i : ℕ) →
      ((job day.rows i).release ≤ latest_minute) × ((job day.rows i).length ≤ longest_length) × ((job day.rows i).due ≤ latest_due)

abbrev pub DaysAccepted : Type 0
DaysAccepted = (terms : Terms) (book : List ℕ) (day : Day) → read_by terms book ≡ accepted day → AcceptedDay terms day
