-- `put_rows` meets its contract: the first places are written over.
-- Assumes nothing.
use Prim.Native.Nat.{ℕ, ◌<◌}
use native.Mathlib.Omega.{arith}
use mathlib.Core.Path.{refl, ap, ◌∙◌}
use mathlib.Core.List.{List, ◌++◌}
use lib.ListN.{take, drop, set}
use Rattle.std.proofs.lemmas.List.{length-take}
use Rattle.schedule.specs.Columns.{at}
use Rattle.desk_plans.proofs.RowsPut.{put_at, put_place, put_next, put_all}
use Rattle.desk_plans.proofs.put_rows.Goals as goal

pub loop-place-init : goal.loop-place-init
loop-place-init c = refl

pub bounds-rows-place : goal.bounds-rows-place
bounds-rows-place c =
    let a = c.args in
    let l = c.loop-place in
    let h : l.place-index < a.n = omega (arith, length-take a.n a.res.now) in
    let same = put_place (at a.rows.now) a.n a.res.now l.place-index c.loop-place-test.true l.place-items l.invariant in
    omega (arith, same, c.requires.1 l.place-index h)

pub loop-place-preserved : goal.loop-place-preserved
loop-place-preserved c =
    let a = c.args in
    let l = c.loop-place in
    ap (λ (xs : List ℕ). set xs l.place-index (at a.rows.now (at l.place-items l.place-index))) l.invariant ∙
    put_next (at a.rows.now) (take a.n a.res.now) l.place-index c.loop-place-test.true _
    (ap (at a.rows.now) (ap (λ (xs : List ℕ). at xs l.place-index) l.invariant ∙
    put_at (at a.rows.now) (take a.n a.res.now) l.place-index c.loop-place-test.true))

pub returns : goal.returns
returns c =
    let a = c.args in
    let l = c.loop-place in
    ap (λ (xs : List ℕ). xs ++ drop a.n a.res.now) (l.invariant ∙ put_all (at a.rows.now) (take a.n a.res.now) l.place-index (omega arith))
