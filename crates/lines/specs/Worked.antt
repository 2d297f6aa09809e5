-- Lines as they are printed: those of document 01, and one of an early plan.
-- Rests on: LineBytes.
use Rattle.std.specs.Prelude.{◌≡◌, refl, [], ◌∷◌, pos, negsuc}
use Rattle.lines.specs.Decimal.{open_decimal}
use Rattle.lines.specs.LineBytes.{refused_line, rows_line, plan_line, open_line_bytes}

-- `rows 2 plans 2`
pub rows_line_lem : rows_line 2 2 ≡
    114 ∷ 111 ∷ 119 ∷ 115 ∷ 32 ∷ 50 ∷ 32 ∷ 112 ∷ 108 ∷ 97 ∷ 110 ∷ 115 ∷ 32 ∷ 50 ∷ 10 ∷ []
unfolding open_decimal open_line_bytes
rows_line_lem = refl

-- `plan 1 end 11 late 6 order 902 901`
pub plan_line_lem : plan_line 1 11 (pos 6) (902 ∷ 901 ∷ []) ≡
    112 ∷ 108 ∷ 97 ∷ 110 ∷ 32 ∷ 49 ∷ 32 ∷ 101 ∷ 110 ∷ 100 ∷ 32 ∷ 49 ∷ 49 ∷ 32 ∷ 108 ∷ 97 ∷ 116 ∷ 101 ∷ 32 ∷ 54 ∷ 32 ∷ 111 ∷
    114 ∷ 100 ∷ 101 ∷ 114 ∷ 32 ∷ 57 ∷ 48 ∷ 50 ∷ 32 ∷ 57 ∷ 48 ∷ 49 ∷ 10 ∷ []
unfolding open_decimal open_line_bytes
plan_line_lem = refl

-- `plan 1 end 4 late -1 order 268435455`
pub early_line : plan_line 1 4 (negsuc 0) (268435455 ∷ []) ≡
    112 ∷ 108 ∷ 97 ∷ 110 ∷ 32 ∷ 49 ∷ 32 ∷ 101 ∷ 110 ∷ 100 ∷ 32 ∷ 52 ∷ 32 ∷ 108 ∷ 97 ∷ 116 ∷ 101 ∷ 32 ∷ 45 ∷ 49 ∷ 32 ∷ 111 ∷
    114 ∷ 100 ∷ 101 ∷ 114 ∷ 32 ∷ 50 ∷ 54 ∷ 56 ∷ 52 ∷ 51 ∷ 53 ∷ 52 ∷ 53 ∷ 53 ∷ 10 ∷ []
unfolding open_decimal open_line_bytes
early_line = refl

-- `refused 5 at 1026`
pub refused_line_lem : refused_line 5 1026 ≡
    114 ∷ 101 ∷ 102 ∷ 117 ∷ 115 ∷ 101 ∷ 100 ∷ 32 ∷ 53 ∷ 32 ∷ 97 ∷ 116 ∷ 32 ∷ 49 ∷ 48 ∷ 50 ∷ 54 ∷ 10 ∷ []
unfolding open_decimal open_line_bytes
refused_line_lem = refl
