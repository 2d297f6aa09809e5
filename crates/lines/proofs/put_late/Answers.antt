-- `put_late` meets its contract: each half of the words by its law.
use Rattle.std.proofs.Common.{◌≡◌, arith}
use Rattle.std.proofs.Math.IntN.{sub_ℕ}
use native.Mathlib.Nat.{le_refl}
use Rattle.results.specs.Results.{signed}
use Rattle.lines.specs.LineBytes.{late_word, late_field}
use Rattle.lines.specs.SignedFields.{signed_field}
use Rattle.lines.proofs.Adding.{same_added}
use Rattle.lines.proofs.Signed.{late_below, late_above}
use Rattle.lines.proofs.put_late.Goals as goal
use Rattle.lines.proofs.put_late.Goals.{then-late-lt2147483648, else-late-lt2147483648}

pub returns : goal.returns
returns c =
    let late = c.args.late in
    let e : signed_field late_word (sub_ℕ c.from.result c.if-late-lt2147483648.above) ≡ late_field (signed late) = elim c.if-late-lt2147483648.branch [
      | then-late-lt2147483648 w ↦ late_below late _ _ c.from.ensures (omega arith) w.above-is
      | else-late-lt2147483648 w ↦ late_above late _ _ c.from.ensures (omega arith) (omega arith) w.above-is
    ] in
    same_added (le_refl 27) e c.put_signed.ensures
