-- The calls of an open desk by the paper's numbers; histories, which are lists of such calls; and what accepted starts and changes of pace
-- come to. Rests on: the calls (desk_open, desk_start, desk_pace, desk_plans), Answers, the schedule's rows and desk, the length of a row.
use Rattle.std.specs.Prelude.{ℕ, ◌+◌, cond, List, [], ◌∷◌, map, eqb, ℤ}
use Rattle.std.proofs.Math.Option.{Option, none, some}
use Rattle.std.proofs.Math.IntN.{sub_ℕ}
use Rattle.theory.specs.Jobs.{Job}
use Rattle.schedule.specs.Rows.{row, Day, row_numbers, stands}
use Rattle.schedule.specs.Desk.{worst_of}
use Rattle.calls.specs.Answers.{Said, said_list, said_order}
use Rattle.outcomes.specs.Planning.{Outcome}
use Rattle.promises.specs.Vocabulary.{told}
use Rattle.row_reader.specs.NearestMinute.{length_of}
use Rattle.running.specs.Running.{Running, pages_of}
use Rattle.desk_open.specs.Opens.{open_call}
use Rattle.desk_start.specs.Starts.{start_call}
use Rattle.desk_pace.specs.Paces.{pace_call}
use Rattle.desk_plans.specs.Plans.{desk_list_call, desk_plan_call}
use Rattle.open_desk.specs.Answers.{said_open, said_start, said_pace}

-- The offered calls: opening lent words with a book, told the opening minutes; and on these words, a start of a row at a minute, a change
-- of pace, the list into a buffer, and the order of a listed plan by its number from 1. What is lent for writing is given with the answer,
-- as it is after the call: the desk's words by the first three, the buffer by the others. These are lent the desk for reading.
abbrev pub desk_open : (opening : ℕ) → (book ws : List ℕ) → Outcome Said
desk_open opening book ws = told said_open (open_call opening book ws)

abbrev pub desk_start : (ws : List ℕ) → (row minute : ℕ) → Outcome Said
desk_start ws i m = told said_start (start_call ws i m)

abbrev pub desk_pace : (ws : List ℕ) → (pace : ℕ) → Outcome Said
desk_pace ws p = told said_pace (pace_call ws p)

abbrev pub desk_list : (ws b : List ℕ) → Outcome Said
desk_list ws b = told said_list (desk_list_call ws b)

abbrev pub desk_plan : (ws : List ℕ) → ℕ → (b : List ℕ) → Outcome Said
desk_plan ws k b = told said_order (desk_plan_call ws k b)

-- # A history is a list of calls on an open desk
pub data Call : Type 0 where
  starts : (row minute : ℕ) → Call
  paces : (pace : ℕ) → Call
  lists : (b : List ℕ) → Call
  orders : (k : ℕ) (b : List ℕ) → Call

-- The desk's words after a call, and after calls one after another.
abbrev pub after_call : List ℕ → Call → List ℕ
after_call ws (starts i m) = (desk_start ws i m).buffer
after_call ws (paces p) = (desk_pace ws p).buffer
after_call ws (lists b) = ws
after_call ws (orders k b) = ws

unfoldable pub after : List ℕ → List Call → List ℕ
after ws [] = ws
after ws (c ∷ cs) = after (after_call ws c) cs

-- A start of a row at a minute. A move is a start or a change of pace.
pub record Start : Type 0 where
  pub row : ℕ
  pub minute : ℕ

pub data Move : Type 0 where
  started : Start → Move
  changed : (pace : ℕ) → Move

-- The moves among the calls that were accepted, that is, not refused, in their order; and these as calls.
abbrev pub with_move : (refused : ℕ) → Move → List Move → List Move
with_move n m ms = cond (eqb n 0) (m ∷ ms) ms

abbrev pub with_call : List ℕ → Call → List Move → List Move
with_call ws (starts i m) ms = with_move (desk_start ws i m).answer.number (started (record { row = i; minute = m })) ms
with_call ws (paces p) ms = with_move (desk_pace ws p).answer.number (changed p) ms
with_call ws (lists b) ms = ms
with_call ws (orders k b) ms = ms

unfoldable pub accepted_moves : List ℕ → List Call → List Move
accepted_moves ws [] = []
accepted_moves ws (c ∷ cs) = with_call ws c (accepted_moves (after_call ws c) cs)

abbrev pub as_call : Move → Call
as_call (started s) = starts s.row s.minute
as_call (changed p) = paces p

-- # What moves on a day's desk come to, told from the opening minutes, the book's pace and the moves alone
-- The starts among them.
unfoldable pub starts_among : List Move → List Start
starts_among [] = []
starts_among (started s ∷ ms) = s ∷ starts_among ms
starts_among (changed p ∷ ms) = starts_among ms

-- The rows left: those that no start has taken, in the sequence of the book.
unfoldable pub not_taken : List Start → List ℕ → List ℕ
not_taken done [] = []
not_taken done (i ∷ is) = cond (stands i (map (λ (s : Start). s.row) done)) (not_taken done is) (i ∷ not_taken done is)

-- The pace in force: that of the last change; before any, the book's.
unfoldable pub pace_after : (pace : ℕ) → List Move → ℕ
pace_after pace [] = pace
pace_after pace (started s ∷ ms) = pace_after pace ms
pace_after pace (changed p ∷ ms) = pace_after p ms

-- The pace that row i is read at: the one in force when it was started; of a row that is left, the one in force now.
unfoldable pub pace_for : (pace : ℕ) → List Move → (i : ℕ) → ℕ
pace_for pace [] i = pace
pace_for pace (started s ∷ ms) i = cond (eqb i s.row) pace (pace_for pace ms i)
pace_for pace (changed p ∷ ms) i = pace_for p ms i

-- Where row i is read at the pace `pace_of i`:
module _ (opening : ℕ) (day : Day) (pace_of : ℕ → ℕ) where
  -- A row's length comes from its pages, to the nearest minute. Its release and due are the book's, be it a class due or not.
  abbrev pub length_read : ℕ → ℕ
  length_read i = length_of (row day.rows i).pages (pace_of i)

  abbrev pub job_read : ℕ → Job
  job_read i = record { release = (row day.rows i).release; length = opening + length_read i; due = (row day.rows i).due }

  -- A start's end is its minute plus opening plus the row's length; it is late by end minus due.
  abbrev pub end_of_start : Start → ℕ
  end_of_start s = s.minute + (opening + length_read s.row)

  abbrev pub lateness_of_start : Start → ℤ
  lateness_of_start s = sub_ℕ (end_of_start s) (row day.rows s.row).due

  -- The desk stands at the end of the last start; where none is done, at the free minute.
  unfoldable pub minute_after : ℕ → List Start → ℕ
  minute_after t [] = t
  minute_after t (s ∷ ss) = minute_after (end_of_start s) ss

  -- The worst lateness so far: the largest of the starts' latenesses; none where none is done.
  unfoldable pub worst_so_far : List Start → Option ℤ
  worst_so_far [] = none
  worst_so_far (s ∷ ss) = some (worst_of (map lateness_of_start (s ∷ ss)))

-- The running desk after the moves.
abbrev pub standing : (opening pace : ℕ) → Day → List Move → Running
standing opening pace day moves = record {
  opening = opening;
  rows = map (job_read opening day (pace_for pace moves)) (row_numbers day);
  pages = pages_of day;
  left = not_taken (starts_among moves) (row_numbers day);
  minute = minute_after opening day (pace_for pace moves) day.free (starts_among moves);
  worst = worst_so_far opening day (pace_for pace moves) (starts_among moves);
}

-- Opens every definition of this file: name it on an `unfolding` line where all is to be computed.
unfoldable pub open_history : Unit {0}
unfolding after accepted_moves starts_among not_taken pace_after pace_for minute_after worst_so_far
open_history = tt
