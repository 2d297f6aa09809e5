-- Laws of the lines of the plans, as a loop puts them.
-- Assumes nothing.
use Prim.Native.Nat.{ℕ, zero, suc, ◌+◌, ◌<◌}
use mathlib.Core.Path.{◌≡◌, ap, sym, ◌∙◌}
use mathlib.Core.List.{List, [], ◌∷◌, ◌++◌, append_assoc, append-nil}
use mathlib.Core.Option.{some}
use native.Mathlib.Omega.{arith}
use native.Mathlib.Nat.{add-zero}
use native.Mathlib.Numerals.{add-one}
use lib.ListN.{length, take}
use lib.Seq.{length-take-le}
use Rattle.outcomes.specs.Planning.{nth}
use Rattle.calls.specs.Lines.{Line}
use Rattle.lines.specs.LineBytes.{plan_line}
use Rattle.sheet.specs.Shown.{plan_lines}

-- The line after the first k.
take_next : (ls : List Line) (k : ℕ) (l : Line) → nth ls (suc k) ≡ some l → take (suc k) ls ≡ take k ls ++ (l ∷ [])
unfolding nth
take_next [] zero l e = let z : ◌≡◌ {A = ℕ} 0 1 = cc in absurd (omega arith)
take_next [] (suc k) l e = let z : ◌≡◌ {A = ℕ} 0 1 = cc in absurd (omega arith)
take_next (m ∷ ls) zero l e = ap (λ (x : Line). x ∷ []) (cc)
take_next (m ∷ ls) (suc k) l e = ap (λ (xs : List Line). m ∷ xs) (take_next ls k l e)

-- The line of a plan, by its number.
abbrev line : ℕ → Line → List ℕ
line n l = plan_line n l.end l.late l.numbers

-- Lines counted from j, and one more, of number n.
lines_more : (j n : ℕ) (ls : List Line) (l : Line) → n ≡ j + length ls → plan_lines j ls ++ line n l ≡ plan_lines j (ls ++ (l ∷ []))
unfolding plan_lines
lines_more j n [] l e = ap (λ (k : ℕ). line k l) (e ∙ add-zero j) ∙ sym (append-nil (line j l))
lines_more j n (m ∷ ls) l e =
    append_assoc (line j m) (plan_lines (suc j) ls) (line n l) ∙
    ap (λ (b : List ℕ). line j m ++ b) (lines_more (suc j) n ls l (omega arith))

pub next_line : (ls : List Line) (k : ℕ) (l : Line) → k < length ls → nth ls (suc k) ≡ some l →
    plan_lines 1 (take k ls) ++ line (k + 1) l ≡ plan_lines 1 (take (k + 1) ls)
next_line ls k l h e =
    lines_more 1 (k + 1) (take k ls) l (omega (arith, length-take-le k ls (omega arith))) ∙
    ap (plan_lines 1) (sym (ap (λ (n : ℕ). take n ls) (add-one k) ∙ take_next ls k l e))
