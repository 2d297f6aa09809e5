-- `put_column` meets its contract: a part of the desk takes a part of the column.
-- Assumes nothing.
use native.Mathlib.Omega.{arith}
use Prim.Native.Nat.{ℕ, ◌+◌, ◌-◌}
use mathlib.Core.Path.{◌≡◌, ap, ◌∙◌}
use mathlib.Core.List.{List}
use lib.ListN.{take, drop, length-drop}
use Rattle.std.proofs.lemmas.List.{length-take}
use Rattle.running.specs.Words.{put}
use Rattle.running.proofs.Puts.{put_middle}
use Rattle.running.proofs.put_column.Goals as goal

pub returns : goal.returns
returns c =
    let a = c.args in
    let all : a.n + 1 - 1 ≡ a.n = omega arith in
    put_middle (a.before + 1) (a.before + 1 + a.n - (a.before + 1)) a.desk.now _
    (omega (arith, c.copy_from_slice.ensures.len, length-take {A = ℕ}, length-drop {A = ℕ})) ∙
    ap (λ (xs : List ℕ). put (a.before + 1) xs a.desk.now)
    (c.copy_from_slice.ensures.after ∙ ap (λ (k : ℕ). take k (drop 1 a.column.now)) all)
