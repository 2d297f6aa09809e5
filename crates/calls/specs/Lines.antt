-- What `slate` prints of a book: the refusal, or the counts of rows and plans and a line for each plan, with order numbers.
-- Rests on: Calls.
use Rattle.std.specs.Prelude.{ℕ, List, [], map, length, ℤ}
use Rattle.std.proofs.Math.Option.{Option, none, some}
use Rattle.schedule.specs.declared.Row.{Row}
use Rattle.schedule.specs.Rows.{Day, row}
use Rattle.schedule.specs.Desk.{Pair}
use Rattle.book.specs.Rows.{refused, accepted}
use Rattle.readers.specs.declared.Terms.{Terms}
use Rattle.readers.specs.Reads.{read_by}
use Rattle.calls.specs.Planned.{planned}

-- `plan K end E late L order N N ..`: K is the line's place among its like, from 1.
pub record Line : Type 0 where
  pub end : ℕ
  pub late : ℤ
  pub numbers : List ℕ

-- `refused N at P`; or `rows R plans P`, with the lines that follow.
pub data Printed : Type 0 where
  refusal : ℕ → ℕ → Printed
  listing : ℕ → List Line → Printed

-- The order numbers of an order.
unfoldable pub numbers_of : List Row → Option (List ℕ) → List ℕ
numbers_of rows none = []
numbers_of rows (some order) = map (λ i. (row rows i).number) order

module _ (terms : Terms) where
  unfoldable pub line_of : Day → Pair → Line
  line_of day p =
      let order = (planned terms day).orders p.late in
      record { end = p.end; late = p.late; numbers = numbers_of day.rows order }

  unfoldable pub printed : List ℕ → Printed
  printed book = elim (read_by terms book) [
    | refused n p ↦ refusal n p
    | accepted day ↦ listing (length day.rows) (map (line_of day) (planned terms day).plans)
  ]

-- Opens every definition of this file: name it on an `unfolding` line where all is to be computed.
unfoldable pub open_lines : Unit {0}
unfolding numbers_of line_of printed
open_lines = tt
