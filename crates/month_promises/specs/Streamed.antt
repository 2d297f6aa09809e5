-- Days come in one after another: what the program does with an input that it sees through a window of one day, turn by turn, and that this
-- is what is shown of the whole. The proof is `streamed`, in proofs/Streamed.antt. Rests on: Shown, the turns.
use Rattle.std.specs.Prelude.{ℕ, zero, suc, ◌*◌, ◌≡◌, List, [], take, drop}
use Rattle.month_input.specs.Layout.{most_days, most_words, size_of}
use Rattle.totals.specs.Report.{Report, with_day, report_of}
use Rattle.report_lines.specs.ReportBytes.{report_bytes, refused_bytes}
use Rattle.month_step.specs.Turns.{result_for, day, ended, astray, next_day}
use Rattle.month_promises.specs.Shown.{shown}

-- What is held from turn to turn is the report of the days so far and their number, and never a day. Each turn looks at the first 5,148 of
-- the bytes that are left, and goes on after the day that it takes.
unfoldable pub turns : ℕ → (report : Report) (days : ℕ) (left : List ℕ) → List ℕ
turns zero report days left = refused_bytes
turns (suc n) report days left = elim (next_day days (take (4 * most_words) left)) [
  | ended ↦ report_bytes report
  | astray ↦ refused_bytes
  | day d ↦ turns n (with_day (result_for d) report) (suc days) (drop (4 * size_of d) left)
]

abbrev pub Streamed : Type 0
Streamed = (input : List ℕ) → turns (suc most_days) (report_of []) 0 input ≡ shown input
