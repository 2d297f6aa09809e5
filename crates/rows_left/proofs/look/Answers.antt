-- `look` meets its contract: the words hold a desk, the numbers, the columns by these, and the test of the columns.
-- Assumes nothing.
use native.Mathlib.Omega.{arith}
use mathlib.Core.Bool.{Bool, true}
use mathlib.Core.Path.{◌≡◌, refl, sym, ◌∙◌}
use mathlib.Core.List.{List}
use Rattle.running.specs.Words.{minute_in, is_desk, IsDesk}
use Rattle.running.proofs.Fits.{desk_says}
use Rattle.rows_left.specs.declared.Left.{Left}
use Rattle.rows_left.specs.Left.{plans_here}
use Rattle.rows_left.specs.Gathered.{FitTested, jobs_left, Gathered}
use Rattle.rows_left.proofs.Gathering.{few_left, rows_small, columns_within, can_plan_told}
use Rattle.rows_left.proofs.look.Goals as goal

-- The words hold a desk; and what the test of its rows left tells of them.
held : {b : Bool} (ws : List _) → b ≡ is_desk ws → b ≡ true → IsDesk ws
held ws e f = (desk_says ws).0 (sym e ∙ f)

told : {b desk : Bool} (ws : List _) → desk ≡ is_desk ws → desk ≡ true → (left : Left) → Gathered ws left →
    FitTested (minute_in ws) (jobs_left left) left.count b → b ≡ plans_here ws
unfolding plans_here
told ws e f left g t = let here = sym e ∙ f in rw here (can_plan_told ws left g _ t)

pub returns-then-not-is_desk : goal.returns-then-not-is_desk
unfolding plans_here
returns-then-not-is_desk c = let none = sym c.is_desk.ensures ∙ c.if-not-is_desk.true in rw none refl

pub numbers_left-count-requires : goal.numbers_left-count-requires
numbers_left-count-requires c =
    let desk = held _ c.is_desk.ensures c.if-not-is_desk.false in
    (desk.long, desk.count.1, refl)

pub column_left-requires : goal.column_left-requires
column_left-requires c =
    let desk = held _ c.is_desk.ensures c.if-not-is_desk.false in
    let n = c.numbers_left-count.ensures in
    (few_left desk n.0, omega arith, desk.long, rows_small _ n.0 n.1 desk, refl)

pub column_left-requires-2 : goal.column_left-requires-2
column_left-requires-2 c =
    let desk = held _ c.is_desk.ensures c.if-not-is_desk.false in
    let n = c.numbers_left-count.ensures in
    (few_left desk n.0, omega arith, desk.long, rows_small _ n.0 n.1 desk, refl)

pub column_left-requires-3 : goal.column_left-requires-3
column_left-requires-3 c =
    let desk = held _ c.is_desk.ensures c.if-not-is_desk.false in
    let n = c.numbers_left-count.ensures in
    (few_left desk n.0, omega arith, desk.long, rows_small _ n.0 n.1 desk, refl)

pub bounds-desk-1 : goal.bounds-desk-1
bounds-desk-1 c = omega (arith, (held _ c.is_desk.ensures c.if-not-is_desk.false).long)

pub can_plan-requires : goal.can_plan-requires
can_plan-requires c =
    let desk = held _ c.is_desk.ensures c.if-not-is_desk.false in
    let n = c.numbers_left-count.ensures in
    let r = c.column_left.ensures in
    let l = c.column_left-2.ensures in
    let d = c.column_left-3.ensures in
    (desk.early, few_left desk n.0, r.sized, l.sized, d.sized, columns_within _ n.0 n.1 desk r l d)

pub returns-then-not-can_plan : goal.returns-then-not-can_plan
returns-then-not-can_plan c =
    let n = c.numbers_left-count.ensures in
    let g : Gathered _ _ = record {
      counted = n.0;
      numbered = n.1;
      released = c.column_left.ensures;
      timed = c.column_left-2.ensures;
      dated = c.column_left-3.ensures;
    } in
    sym (told _ c.is_desk.ensures c.if-not-is_desk.false _ g c.can_plan.ensures) ∙ c.if-not-can_plan.true

pub returns : goal.returns
returns c =
    let n = c.numbers_left-count.ensures in
    let g : Gathered _ _ = record {
      counted = n.0;
      numbered = n.1;
      released = c.column_left.ensures;
      timed = c.column_left-2.ensures;
      dated = c.column_left-3.ensures;
    } in
    (sym (told _ c.is_desk.ensures c.if-not-is_desk.false _ g c.can_plan.ensures) ∙ c.if-not-can_plan.false, g)
