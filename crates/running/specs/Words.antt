-- The words of a lent desk, and the running desk that they hold. Words 0 to 7 are the head: the count of rows, the minute, the worst
-- lateness so far raised by 2³¹ (0 for none), the opening minutes, the others kept for later use. Then five columns of 256 words: the
-- release of each row, its time at the desk (opening plus length), its due, whether it is done (1), and its pages. 1,288 words in all.
-- Rests on: Running.
use Rattle.std.specs.Prelude.{ℕ, zero, suc, ◌+◌, ◌≤◌, Bool, true, cond, ◌&&◌, ◌||◌, ◌≡◌, List, [], ◌∷◌, ◌++◌, map, ◌⊎◌, leb, eqb, length, take, drop, set, ℤ}
use Rattle.std.proofs.Math.Option.{Option, none, some}
use Rattle.theory.specs.Jobs.{Job}
use Rattle.schedule.specs.Limits.{most_rows, latest_minute, longest_length, latest_due, most_pages, most_opening, latest_stand}
use Rattle.schedule.specs.Rows.{count_from}
use Rattle.schedule.specs.Columns.{at}
use Rattle.schedule.specs.Offset.{lowered}
use Rattle.running.specs.Running.{Running, between}

abbrev pub desk_words : ℕ
desk_words = 1288

abbrev pub count_in : List ℕ → ℕ
count_in ws = at ws 0

abbrev pub minute_in : List ℕ → ℕ
minute_in ws = at ws 1

abbrev pub worst_in : List ℕ → ℕ
worst_in ws = at ws 2

abbrev pub opening_in : List ℕ → ℕ
opening_in ws = at ws 3

-- Row i has word i of each column, counted from 1: the place before a column's first word.
abbrev pub releases : ℕ
releases = 7

abbrev pub times : ℕ
times = 263

abbrev pub dues : ℕ
dues = 519

abbrev pub marks : ℕ
marks = 775

abbrev pub pages : ℕ
pages = 1031

-- The job of row i, and the jobs of all rows.
abbrev pub job_at : List ℕ → ℕ → Job
job_at ws i = record { release = at ws (releases + i); length = at ws (times + i); due = at ws (dues + i) }

abbrev pub rows_in : List ℕ → List Job
rows_in ws = map (job_at ws) (count_from 1 (count_in ws))

-- The pages of all rows.
abbrev pub pages_held : List ℕ → List ℕ
pages_held ws = map (λ i. at ws (pages + i)) (count_from 1 (count_in ws))

-- The rows left among the first n: those whose mark is 0.
unfoldable pub left_to : List ℕ → ℕ → List ℕ
left_to ws zero = []
left_to ws (suc n) = cond (eqb (at ws (marks + suc n)) 0) (left_to ws n ++ (suc n ∷ [])) (left_to ws n)

-- A worst lateness so far, from its word.
abbrev pub worst_held : ℕ → Option ℤ
worst_held zero = none
worst_held (suc w) = some (lowered (suc w))

-- The running desk that the words hold.
abbrev pub running : List ℕ → Running
running ws = record {
  opening = opening_in ws;
  rows = rows_in ws;
  pages = pages_held ws;
  left = left_to ws (count_in ws);
  minute = minute_in ws;
  worst = worst_held (worst_in ws);
}

-- The least and the most lateness of a row that is done, raised: -19,999,999 and 20,030,030.
abbrev pub least_raised : ℕ
least_raised = 2127483649

abbrev pub most_raised : ℕ
most_raised = 2167513678

-- What is tested of a run that is lent as a desk: its length, the count of rows, the minute, the worst lateness, the opening, and each
-- column. A row's time is the opening and a length from 1 to 30,000.
unfoldable pub column_fits : (before least most : ℕ) → List ℕ → ℕ → Bool
column_fits before least most ws zero = true
column_fits before least most ws (suc n) = column_fits before least most ws n && between least most (at ws (before + suc n))

unfoldable pub rows_fit : List ℕ → ℕ → Bool
rows_fit ws n =
    column_fits releases 0 latest_minute ws n && (column_fits times (opening_in ws + 1) (opening_in ws + longest_length) ws n &&
    (column_fits dues 0 latest_due ws n && column_fits marks 0 1 ws n))

unfoldable pub head_fits : List ℕ → Bool
head_fits ws =
    between 1 most_rows (count_in ws) && (leb (minute_in ws) latest_stand &&
    (leb (opening_in ws) most_opening && (eqb (worst_in ws) 0 || between least_raised most_raised (worst_in ws))))

unfoldable pub is_desk : List ℕ → Bool
is_desk ws = leb desk_words (length ws) && (head_fits ws && rows_fit ws (count_in ws))

-- The same as a statement; that the test says this is `desk_says`, in proofs/Fits.antt.
pub record IsDesk (ws : List ℕ) : Type 0 where
  pub long : desk_words ≤ length ws
  pub count : (1 ≤ count_in ws) × (count_in ws ≤ most_rows)
  pub early : minute_in ws ≤ latest_stand
  pub opening : opening_in ws ≤ most_opening
  pub worst : (worst_in ws ≡ 0) ⊎ ((least_raised ≤ worst_in ws) × (worst_in ws ≤ most_raised))
  pub rows : (i : ℕ) → 1 ≤ i → i ≤ count_in ws →
      (at ws (releases + i) ≤ latest_minute) × (opening_in ws + 1 ≤ at ws (times + i)) ×
      (at ws (times + i) ≤ opening_in ws + longest_length) × (at ws (dues + i) ≤ latest_due) × (at ws (marks + i) ≤ 1)

-- Only a change of pace looks at the pages: there they are tested too.
unfoldable pub keeps_pages : List ℕ → Bool
keeps_pages ws = is_desk ws && column_fits pages 1 most_pages ws (count_in ws)

-- The same as a statement; that the test says this is `keeps_says`, in proofs/Fits.antt.
pub record KeepsPages (ws : List ℕ) : Type 0 where
  pub desk : IsDesk ws
  pub pages : (i : ℕ) → 1 ≤ i → i ≤ count_in ws → (1 ≤ at ws (pages + i)) × (at ws (pages + i) ≤ most_pages)

-- A run of words with others from a place on.
unfoldable pub put : (place : ℕ) → List ℕ → List ℕ → List ℕ
put p xs ws = take p ws ++ xs ++ drop (p + length xs) ws

-- The words after row i is started: the minute, the worst lateness so far, raised, and the row's mark.
abbrev pub moved_words : List ℕ → (i end worst : ℕ) → List ℕ
moved_words ws i end worst = set (set (set ws 1 end) 2 worst) (marks + i) 1

-- Opens every definition of this file: name it on an `unfolding` line where all is to be computed.
unfoldable pub open_words : Unit {0}
unfolding left_to column_fits rows_fit head_fits is_desk keeps_pages put
open_words = tt
