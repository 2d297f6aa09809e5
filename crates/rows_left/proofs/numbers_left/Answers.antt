-- `numbers_left` meets its contract: the rows left before row i are noted.
-- Assumes nothing.
use Prim.Native.Nat.{◌+◌}
use native.Mathlib.Omega.{arith}
use mathlib.Core.Path.{refl}
use borrow.Author.Tests.{eq-eqb, ne_eqb}
use Rattle.schedule.specs.Limits.{row_places}
use Rattle.schedule.specs.Filled.{from}
use Rattle.schedule.proofs.Filling.{filled_first}
use Rattle.running.specs.Words.{count_in, left_to}
use Rattle.rows_left.proofs.LeftRows.{noted_row, noted_all}
use Rattle.rows_left.proofs.numbers_left.Goals as goal
use Rattle.rows_left.proofs.numbers_left.Goals.{then-desk-i-eq0, else-desk-i-eq0}

pub loop-i-init : goal.loop-i-init
unfolding left_to
loop-i-init c = (omega arith, (refl, omega arith, filled_first row_places (from 1) _ _ c.requires.2))

pub loop-i-preserved : goal.loop-i-preserved
loop-i-preserved c =
    let l = c.loop-i in
    let more = noted_row c.args.desk.now l.i l.m l.rows (omega arith) (omega arith) l.invariant.1 in (
      omega arith,
      elim c.if-desk-i-eq0.branch [
        | then-desk-i-eq0 w ↦
            let e = eq-eqb _ 0 w.if-desk-i-eq0.true in more _ _ (rw (w.m-is, e) refl) (rw (w.rows-is, e) refl)
        | else-desk-i-eq0 w ↦
            let e = ne_eqb _ 0 w.if-desk-i-eq0.false in more _ _ (rw (w.m-is, e) refl) (rw (w.rows-is, e) refl)
      ],
    )

pub returns : goal.returns
returns c = let l = c.loop-i in noted_all c.args.desk.now (count_in c.args.desk.now) l.i l.m l.rows (omega arith) l.invariant.1

pub returns-after-desk-i-eq0 : goal.returns-after-desk-i-eq0
returns-after-desk-i-eq0 c =
    let l = c.loop-i in
    let more = noted_row c.args.desk.now l.i l.m l.rows (omega arith) (omega arith) l.invariant.1 in
    noted_all c.args.desk.now (count_in c.args.desk.now) (l.i + 1) _ _ (omega arith) (elim c.if-desk-i-eq0.branch [
      | then-desk-i-eq0 w ↦
          let e = eq-eqb _ 0 w.if-desk-i-eq0.true in more _ _ (rw (w.m-is, e) refl) (rw (w.rows-is, e) refl)
      | else-desk-i-eq0 w ↦
          let e = ne_eqb _ 0 w.if-desk-i-eq0.false in more _ _ (rw (w.m-is, e) refl) (rw (w.rows-is, e) refl)
    ])
