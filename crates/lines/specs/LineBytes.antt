-- The bytes of each line that `slate` prints, in ASCII.
-- Rests on: Decimal.
use Rattle.std.specs.Prelude.{ℕ, suc, List, [], ◌∷◌, ◌++◌, ℤ, pos, negsuc}
use Rattle.lines.specs.Decimal.{decimal}

-- The fixed words at the start of a line: `refused `, `rows `, `plan `.
abbrev pub refused_word : List ℕ
refused_word = 114 ∷ 101 ∷ 102 ∷ 117 ∷ 115 ∷ 101 ∷ 100 ∷ 32 ∷ []

abbrev pub rows_word : List ℕ
rows_word = 114 ∷ 111 ∷ 119 ∷ 115 ∷ 32 ∷ []

abbrev pub plan_word : List ℕ
plan_word = 112 ∷ 108 ∷ 97 ∷ 110 ∷ 32 ∷ []

-- The words between: ` at `, ` plans `, ` end `, ` late `, ` order`.
abbrev pub at_word : List ℕ
at_word = 32 ∷ 97 ∷ 116 ∷ 32 ∷ []

abbrev pub plans_word : List ℕ
plans_word = 32 ∷ 112 ∷ 108 ∷ 97 ∷ 110 ∷ 115 ∷ 32 ∷ []

abbrev pub end_word : List ℕ
end_word = 32 ∷ 101 ∷ 110 ∷ 100 ∷ 32 ∷ []

abbrev pub late_word : List ℕ
late_word = 32 ∷ 108 ∷ 97 ∷ 116 ∷ 101 ∷ 32 ∷ []

abbrev pub order_word : List ℕ
order_word = 32 ∷ 111 ∷ 114 ∷ 100 ∷ 101 ∷ 114 ∷ []

-- The newline at each line's end.
abbrev pub newline : List ℕ
newline = 10 ∷ []

-- A field: its word, and a number.
abbrev pub field : List ℕ → ℕ → List ℕ
field word n = word ++ decimal n

-- ` late L`: a `-` (45) stands before the digits of a negative lateness.
unfoldable pub late_field : ℤ → List ℕ
late_field (pos n) = field late_word n
late_field (negsuc n) = field (late_word ++ (45 ∷ [])) (suc n)

-- ` N N ..`: the order numbers, a space (32) before each.
unfoldable pub number_fields : List ℕ → List ℕ
number_fields [] = []
number_fields (n ∷ ns) = field (32 ∷ []) n ++ number_fields ns

-- A line of two fields.
abbrev pub two_fields : (first : List ℕ) (number : ℕ) (second : List ℕ) (other : ℕ) → List ℕ
two_fields first number second other = field first number ++ field second other ++ newline

-- `refused N at P`
abbrev pub refused_line : ℕ → ℕ → List ℕ
refused_line number place = two_fields refused_word number at_word place

-- `rows R plans P`
abbrev pub rows_line : ℕ → ℕ → List ℕ
rows_line rows plans = two_fields rows_word rows plans_word plans

-- `plan K end E late L order N N ..`
unfoldable pub plan_line : ℕ → ℕ → ℤ → List ℕ → List ℕ
plan_line plan end late numbers = field plan_word plan ++ field end_word end ++ late_field late ++ order_word ++ number_fields numbers ++ newline

-- Opens every definition of this file: name it on an `unfolding` line where all is to be computed.
unfoldable pub open_line_bytes : Unit {0}
unfolding late_field number_fields plan_line
open_line_bytes = tt
