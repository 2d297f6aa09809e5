-- What the totals hold with a day more. Assumes nothing.
use Prim.Native.Nat.{ℕ, suc, ◌+◌, ◌*◌}
use native.Mathlib.Omega.{arith}
use mathlib.Core.Path.{◌≡◌, ap, ◌∙◌}
use lib.IntN.{ℤ, pos, negsuc, sub_ℕ, ◌+ℤ◌}
use mir.Syntax.{w32}
use mir.Val.{SFits, to_z, of_z}
use mir.ValLaws.{to_z-of_z}
use Rattle.day_result.specs.declared.DayResult.TheVariants.{Refused}
use Rattle.schedule.specs.Offset.{raised}
use Rattle.schedule.proofs.Signed.{up, down, level, sub_level}
use Rattle.totals.specs.declared.Totals.{Totals}
use Rattle.totals.specs.Report.{with_day}
use Rattle.totals.specs.Held.{report_by}
use Rattle.totals.proofs.Levels.{plus_level}

raise_level : (y : ℤ) → SFits w32 y → up y + 2147483648 ≡ raised y + down y
raise_level (pos n) f = omega arith
raise_level (negsuc n) f = omega (arith, f.sfits)

-- A lateness more, raised, of an accepted day more.
pub late_more : (y : ℤ) (sum n : ℕ) → SFits w32 y →
    sub_ℕ (raised y + sum) (suc n * 2147483648) ≡ y +ℤ sub_ℕ sum (n * 2147483648)
late_more y sum n f =
    level (sub_ℕ (raised y + sum) (suc n * 2147483648)) (y +ℤ sub_ℕ sum (n * 2147483648))
    (omega (
      arith,
      raise_level y f,
      sub_level (raised y + sum) (suc n * 2147483648),
      sub_level sum (n * 2147483648),
      plus_level y (sub_ℕ sum (n * 2147483648)),
    ))

-- A refused day more.
pub refused_more : (t : Totals) →
    report_by (record {
      accepted = t.accepted;
      refused = t.refused + 1;
      beaten = t.beaten;
      idle = t.idle;
      late = t.late;
    }) ≡
    with_day Refused (report_by t)
refused_more t =
    let one : t.refused + 1 ≡ 1 + t.refused = omega arith in
    let z = (report_by t).late in
    let same = level z (pos 0 +ℤ z) (omega (arith, plus_level (pos 0) z)) in
    λ x. record {
      accepted = none t.accepted x;
      refused = one x;
      beaten = none t.beaten x;
      idle = none t.idle x;
      late = same x;
    }
  where
    none : (n : ℕ) → n ≡ 0 + n
    none n = omega arith

-- An accepted day more: what is added to each number.
module _ (t r : Totals) (b i z : ℕ) (y : ℤ) where
  pub accepted_more : SFits w32 y → z ≡ raised (to_z w32 (of_z w32 y)) → r.accepted ≡ suc t.accepted → r.refused ≡ t.refused →
      r.beaten ≡ b + t.beaten → r.idle ≡ i + t.idle → r.late ≡ z + t.late →
      report_by r ≡ record {
        accepted = 1 + t.accepted;
        refused = 0 + t.refused;
        beaten = b + t.beaten;
        idle = i + t.idle;
        late = y +ℤ sub_ℕ t.late (t.accepted * 2147483648);
      }
  accepted_more f e a n k m l =
      let s : r.late ≡ raised y + t.late = omega (arith, ap raised (to_z-of_z w32 y f)) in
      let u : suc t.accepted ≡ 1 + t.accepted = omega arith in
      let v : t.refused ≡ 0 + t.refused = omega arith in
      let lates = (λ x. sub_ℕ (s x) (a x * 2147483648)) ∙ late_more y t.late t.accepted f in
      λ x. record { accepted = (a ∙ u) x; refused = (n ∙ v) x; beaten = k x; idle = m x; late = lates x }
