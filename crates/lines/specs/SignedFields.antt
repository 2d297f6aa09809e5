-- A field whose number is signed.
-- Rests on: the fields of a line.
use Rattle.std.specs.Prelude.{ℕ, suc, List, [], ◌∷◌, ◌++◌, ℤ}
use lib.IntN.{pos, negsuc}
use Rattle.lines.specs.LineBytes.{field}

-- A `-` (45) stands before the digits of a negative number.
unfoldable pub signed_field : List ℕ → ℤ → List ℕ
signed_field word (pos n) = field word n
signed_field word (negsuc n) = field (word ++ (45 ∷ [])) (suc n)
