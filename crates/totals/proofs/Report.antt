-- The report is the same for every order of the days. Assumes nothing.
use Prim.Native.Nat.{ℕ, ◌+◌}
use native.Mathlib.Omega.{arith}
use mathlib.Core.Path.{◌≡◌, refl, sym, ap, ◌∙◌}
use mathlib.Core.List.Permᴰ
use mathlib.Core.List.{List, [], ◌∷◌, ◌++◌, Permᴰ}
use lib.IntN.{ℤ, ◌+ℤ◌, +ℤ_assoc, +ℤ_comm}
use Rattle.day_result.specs.declared.DayResult.{DayResult}
use Rattle.totals.specs.Report.{Report, with_day, report_of, AnyOrder}
use Rattle.totals.specs.Report.{accepted_by, refused_by, beaten_by, idle_by, late_by}

plus_swapped : (a b c : ℕ) → a + (b + c) ≡ b + (a + c)
plus_swapped a b c = omega arith

plusℤ_swapped : (a b c : ℤ) → a +ℤ (b +ℤ c) ≡ b +ℤ (a +ℤ c)
plusℤ_swapped a b c = sym (+ℤ_assoc a b c) ∙ (ap (λ (z : ℤ). z +ℤ c) (+ℤ_comm a b) ∙ +ℤ_assoc b a c)

-- Which of two days is added first makes no difference.
swapped : (d e : DayResult) (r : Report) → with_day d (with_day e r) ≡ with_day e (with_day d r)
swapped d e r = λ x. record {
  accepted = plus_swapped (accepted_by d) (accepted_by e) r.accepted x;
  refused = plus_swapped (refused_by d) (refused_by e) r.refused x;
  beaten = plus_swapped (beaten_by d) (beaten_by e) r.beaten x;
  idle = plus_swapped (idle_by d) (idle_by e) r.idle x;
  late = plusℤ_swapped (late_by d) (late_by e) r.late x;
}

reordered : {ds es : List DayResult} → Permᴰ ds es → report_of ds ≡ report_of es
unfolding report_of
reordered Permᴰ.nil = refl
reordered (Permᴰ.cons e p) = λ x. with_day (e x) (reordered p x)
reordered (Permᴰ.swap {a = a} {b = b} {l = l} e f) =
    swapped a b (report_of l) ∙ (λ x. with_day (f x) (with_day (e x) (report_of l)))
reordered (Permᴰ.trans p q) = reordered p ∙ reordered q

pub any_order : AnyOrder
any_order ds es p = reordered p

-- A day more comes last.
pub day_more : (ds : List DayResult) (d : DayResult) → report_of (ds ++ (d ∷ [])) ≡ with_day d (report_of ds)
unfolding report_of
day_more ds d = reordered (Permᴰ.middle d ds []) ∙ ap (with_day d) (reordered (Permᴰ.append-nil ds))
