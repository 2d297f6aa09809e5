-- `rule_tests` meets its contract: the column holds the second numbers of the rows, and the pair test of the columns is that of the rows.
-- Assumes nothing.
use Prim.Native.Nat.{◌-◌}
use native.Mathlib.Omega.{arith}
use mathlib.Core.Path.{◌≡◌}
use Rattle.schedule.specs.Columns.{columns}
use Rattle.readers.specs.Rules.{clash_by}
use Rattle.readers.proofs.Seconds.{Held, held_at, held_columned}
use Rattle.readers.proofs.rule_tests.Goals as goal
use Rattle.readers.proofs.rule_tests.Goals.{else-loop-i-test, then-loop-i-test+else-i-count}

pub returns : goal.returns
returns c =
    let a = c.args in
    let l = c.loop-i in
    let told = columns a.release.now a.minutes.now a.due.now in
    let held : Held a.profile told a.count c.loop-i-test.seconds =
    elim c.loop-i-test.branch [
      | else-loop-i-test w ↦
          let all : l.i - 1 ≡ a.count = omega arith in
          rw (w.seconds-is, ← all) l.invariant.1
      | then-loop-i-test+else-i-count w ↦
          let all : l.i ≡ a.count = omega arith in
          rw (w.seconds-is, w.second_of.ensures, ← all) (held_at a.profile told l.i l.seconds (omega arith) (omega arith) l.invariant.1)
    ] in
    λ rows n same. rw (← c.number_of.ensures)
    (c.pair_tests.ensures (clash_by a.profile) rows n
    (held_columned a.profile a.release.now a.minutes.now a.due.now c.requires.4 a.count c.loop-i-test.seconds held rows n same))
