-- `picks::advance` meets its contract. The loop's invariant: what stood with the place and the set at the start stands with those of now.
-- Assumes nothing.
use native.Mathlib.Omega.{arith}
use mathlib.Core.Path.{refl}
use Rattle.picks.proofs.Advances.{next_high, can_put, next_put, next_late, late_past}
use Rattle.schedule.specs.Columns.{at, columns}
use Rattle.schedule.proofs.Filling.{at_end}
use Rattle.picks.specs.Standing.{Stands, Late}
use Rattle.picks.proofs.advance.Goals as goal

pub loop-next-init : goal.loop-next-init
loop-next-init c = λ minutes due rest k s. s

pub offset_bounds-by-next : goal.offset_bounds-by-next
offset_bounds-by-next c = omega (arith, c.requires.3.few)

pub bounds-by-next : goal.bounds-by-next
bounds-by-next c = omega (arith, c.requires.3.few)

pub offset_bounds-release-i : goal.offset_bounds-release-i
offset_bounds-release-i c =
    record {
      fits = omega (
        arith,
        next_high c.requires.3 c.loop-next-test.true
            refl,
      );
    }

pub bounds-release-i : goal.bounds-release-i
bounds-release-i c = omega (
  arith,
  next_high c.requires.3 c.loop-next-test.true
      refl,
)

pub returns-then-t-release : goal.returns-then-t-release
returns-then-t-release c =
    λ minutes due rest k s₀.
    let s = c.loop-next.invariant minutes due rest k s₀ in
    (s, next_late k c.loop-next-test.true refl s c.if-t-release.true)

pub put-requires : goal.put-requires
put-requires c =
    let e = c.requires in
    can_put e.3 c.loop-next-test.true refl
    (c.loop-next.invariant e.0 e.1 e.2 e.3 e.4)

pub loop-next-preserved : goal.loop-next-preserved
loop-next-preserved c = λ minutes due rest k s₀.
    next_put k c.loop-next-test.true refl (c.loop-next.invariant minutes due rest k s₀) c.if-t-release.false c.put.ensures

pub returns : goal.returns
returns c = λ minutes due rest k s₀.
    let a = c.args in
    let l = c.loop-next in
    let job = columns a.release.now minutes due in
    let by = at a.by.now in
    let s = l.invariant minutes due rest k s₀ in
    at_end (λ (m : _). Stands a.n job by a.t rest m l.ready × Late a.n job by a.t m) l.next a.n s.place c.loop-next-test.false
    (s, late_past s c.loop-next-test.false)
