-- All that is printed of an input, byte by byte.
-- Rests on: Printing, the lines' LineBytes.
use Rattle.std.specs.Prelude.{ℕ, suc, List, [], ◌∷◌, ◌++◌, length}
use Rattle.calls.specs.Lines.{Line, Printed, refusal, listing}
use Rattle.lines.specs.LineBytes.{refused_line, rows_line, plan_line}
use Rattle.sheet.specs.Printing.{prints}

-- The lines of the plans, counted from k on.
unfoldable pub plan_lines : ℕ → List Line → List ℕ
plan_lines k [] = []
plan_lines k (l ∷ ls) = plan_line k l.end l.late l.numbers ++ plan_lines (suc k) ls

-- One line of a refusal; or the line that counts, and then a line for each plan, from 1.
unfoldable pub bytes_of : Printed → List ℕ
bytes_of (refusal number place) = refused_line number place
bytes_of (listing rows ls) = rows_line rows (length ls) ++ plan_lines 1 ls

unfoldable pub shown : List ℕ → List ℕ
shown input = bytes_of (prints input)
