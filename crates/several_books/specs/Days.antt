-- What the books of several desks give: the first refusal with its desk, or the days of all desks.
-- Rests on: the reader.
use Rattle.std.specs.Prelude.{ℕ, suc, ◌+◌, List, [], ◌∷◌, length}
use Rattle.schedule.specs.Rows.{Day}
use Rattle.book.specs.Rows.{Contents, refused, accepted}
use Rattle.readers.specs.declared.Terms.{Terms}
use Rattle.readers.specs.Reads.{read_by}

-- What the books give: the number and place of the first refusal, with its desk, counted from 1; or the days of all desks.
pub data DesksRead : Type 0 where
  refused_at : (number place desk : ℕ) → DesksRead
  days : List Day → DesksRead

abbrev pub day_in_front : Day → DesksRead → DesksRead
day_in_front day (refused_at n p d) = refused_at n p d
day_in_front day (days ds) = days (day ∷ ds)

abbrev pub with_rest : (desk : ℕ) → Contents → DesksRead → DesksRead
with_rest d (refused n p) rest = refused_at n p d
with_rest d (accepted day) rest = day_in_front day rest

-- The books by the terms, from desk d on: each is read as a book of its own.
unfoldable pub read_desks : Terms → (desk : ℕ) → List (List ℕ) → DesksRead
read_desks terms d [] = days []
read_desks terms d (b ∷ bs) = with_rest d (read_by terms b) (read_desks terms (suc d) bs)

-- What stands for a day past the last.
abbrev pub no_day : Day
no_day = record { free = 0; rows = [] }

-- The rows of all days.
unfoldable pub rows_of : List Day → ℕ
rows_of [] = 0
rows_of (day ∷ ds) = length day.rows + rows_of ds

-- Opens every definition of this file: name it on an `unfolding` line where all is to be computed.
unfoldable pub open_days : Unit {0}
unfolding read_desks rows_of
open_days = tt
