-- The bytes of each line that `month` prints, in ASCII.
-- Rests on: the report, the mean, the fields of a line.
use Rattle.std.specs.Prelude.{ℕ, zero, suc, ◌+◌, List, [], ◌∷◌, ◌++◌, ℤ}
use Rattle.lines.specs.Decimal.{open_decimal}
use Rattle.lines.specs.LineBytes.{newline, field, open_line_bytes}
use Rattle.lines.specs.SignedFields.{signed_field}
use Rattle.totals.specs.Report.{Report}
use Rattle.totals.specs.Mean.{Mean, mean_of, open_mean}

-- The fixed words at the start of a line: `days `, `beaten `, `idle `, `late `, `mean `.
abbrev pub days_start : List ℕ
days_start = 100 ∷ 97 ∷ 121 ∷ 115 ∷ 32 ∷ []

abbrev pub beaten_start : List ℕ
beaten_start = 98 ∷ 101 ∷ 97 ∷ 116 ∷ 101 ∷ 110 ∷ 32 ∷ []

abbrev pub idle_start : List ℕ
idle_start = 105 ∷ 100 ∷ 108 ∷ 101 ∷ 32 ∷ []

abbrev pub late_start : List ℕ
late_start = 108 ∷ 97 ∷ 116 ∷ 101 ∷ 32 ∷ []

abbrev pub mean_start : List ℕ
mean_start = 109 ∷ 101 ∷ 97 ∷ 110 ∷ 32 ∷ []

-- The words between: ` accepted `, ` refused `, ` remainder `.
abbrev pub accepted_word : List ℕ
accepted_word = 32 ∷ 97 ∷ 99 ∷ 99 ∷ 101 ∷ 112 ∷ 116 ∷ 101 ∷ 100 ∷ 32 ∷ []

abbrev pub refused_word : List ℕ
refused_word = 32 ∷ 114 ∷ 101 ∷ 102 ∷ 117 ∷ 115 ∷ 101 ∷ 100 ∷ 32 ∷ []

abbrev pub remainder_word : List ℕ
remainder_word = 32 ∷ 114 ∷ 101 ∷ 109 ∷ 97 ∷ 105 ∷ 110 ∷ 100 ∷ 101 ∷ 114 ∷ 32 ∷ []

-- `refused`, the one line of an input that is no month.
abbrev pub refused_bytes : List ℕ
refused_bytes = 114 ∷ 101 ∷ 102 ∷ 117 ∷ 115 ∷ 101 ∷ 100 ∷ 10 ∷ []

-- A line of one number: `beaten B`, `idle M`.
abbrev pub number_line : (word : List ℕ) → ℕ → List ℕ
number_line word n = field word n ++ newline

-- `days D accepted A refused R`
abbrev pub days_line : (accepted refused : ℕ) → List ℕ
days_line accepted refused =
    field days_start (accepted + refused) ++ (field accepted_word accepted ++ number_line refused_word refused)

-- `late L`
abbrev pub late_line : ℤ → List ℕ
late_line total = signed_field late_start total ++ newline

-- `mean Q remainder R`; none if no day is accepted.
abbrev pub mean_fields : Mean → List ℕ
mean_fields m = signed_field mean_start m.quotient ++ number_line remainder_word m.remainder

unfoldable pub mean_line : (total : ℤ) (accepted : ℕ) → List ℕ
mean_line total zero = []
mean_line total (suc n) = mean_fields (mean_of total (suc n))

-- All lines of a report.
unfoldable pub report_bytes : Report → List ℕ
report_bytes r =
    days_line r.accepted r.refused ++
    (number_line beaten_start r.beaten ++
    (number_line idle_start r.idle ++ (late_line r.late ++ mean_line r.late r.accepted)))

-- Opens every definition of this file and of those that it rests on: name it on an `unfolding` line where all is to be computed.
unfoldable pub open_report_bytes : Unit {0}
unfolding open_decimal open_line_bytes open_mean signed_field mean_line report_bytes
open_report_bytes = tt
