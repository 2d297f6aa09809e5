-- Answers of the open desk's calls in the terms of the table of refusals. A field that a case does not speak of is 0.
-- Rests on: the answers of desk_open, desk_start and desk_pace, the calls' Answers.
use Rattle.std.specs.Prelude.{ℕ, ℤ, pos, Ok, Err}
use Rattle.calls.specs.Answers.{Said, said_no}
use Rattle.desk_open.specs.Opens.{OpenAnswer}
use Rattle.desk_start.specs.Starts.{StartAnswer}
use Rattle.desk_pace.specs.Paces.{PaceAnswer}

-- A desk is opened: the count of rows, and its minute. A row is started: the desk's new minute, and the worst lateness so far. The pace is
-- changed: nothing is said but that it is.
abbrev pub said_opened : (count minute : ℕ) → Said
said_opened n t = record { number = 0; place = 0; count = n; end = 0; late = pos 0; minute = t }

abbrev pub said_moved : (minute : ℕ) → ℤ → Said
said_moved t y = record { number = 0; place = 0; count = 0; end = 0; late = y; minute = t }

abbrev pub said_changed : Said
said_changed = record { number = 0; place = 0; count = 0; end = 0; late = pos 0; minute = 0 }

abbrev pub said_open : OpenAnswer → Said
said_open (Ok opened) = said_opened opened.rows opened.minute
said_open (Err refusal) = said_no refusal.number refusal.place

abbrev pub said_start : StartAnswer → Said
said_start (Ok stand) = said_moved stand.minute stand.late
said_start (Err refusal) = said_no refusal.number refusal.place

abbrev pub said_pace : PaceAnswer → Said
said_pace (Ok _) = said_changed
said_pace (Err refusal) = said_no refusal.number refusal.place
