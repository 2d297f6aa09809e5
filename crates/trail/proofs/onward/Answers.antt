-- `onward` meets its contract: from each desk the search has come to it goes on with a block, which the trail holds. Each block takes a
-- row. Assumes nothing.
use Prim.Native.Nat.{ℕ, ◌+◌}
use mathlib.Core.List.{List}
use mathlib.Core.Path.{refl, sym, subst}
use native.Mathlib.Omega.{arith}
use lib.ListN.{set, length-set}
use Rattle.schedule.specs.Columns.{at, columns}
use Rattle.trail.specs.Trails.{Came}
use Rattle.trail.proofs.Coming.{here_torn, here_room, came_next, ended_over, ended_all}
use Rattle.trail.proofs.onward.Goals as goal

pub loop-s-init : goal.loop-s-init
loop-s-init c = (c.requires.order_len.0, refl, λ free g. g)

pub returns-after-loop-s : goal.returns-after-loop-s
returns-after-loop-s c =
    let l = c.loop-s in (
      l.invariant.0,
      omega (arith, l.invariant.1, c.requires.order_len.1),
      λ free g. ended_over _ _ _ c.requires.limits free _ _ _ _ (l.invariant.2 free g) c.loop-s-test.false,
    )

pub returns-else-s-n : goal.returns-else-s-n
returns-else-s-n c =
    let l = c.loop-s in (
      l.invariant.0,
      omega (arith, l.invariant.1, c.requires.order_len.1),
      λ free g. ended_all _ _ _ c.requires.limits free _ _ _ _ (l.invariant.2 free g) c.if-s-n.false,
    )

pub next_block-b-requires : goal.next_block-b-requires
next_block-b-requires c =
    let l = c.loop-s in
    let h = (l.invariant.2 c.requires.order_len.2.0 c.requires.order_len.2.1).kept c.loop-s-test.true in record { limits = c.requires.limits; tables = c.requires.tables; by_index = ((h.rest, h.way.sits, here_torn _ _ _ c.requires.limits _ _ _ _ _ h c.if-s-n.true), l.invariant.0) }

pub offset_bounds-trail-d : goal.offset_bounds-trail-d
offset_bounds-trail-d c =
    let h = (c.loop-s.invariant.2 c.requires.order_len.2.0 c.requires.order_len.2.1).kept
    c.loop-s-test.true in
    record { fits = omega (arith, here_room _ _ _ c.requires.limits _ _ _ _ _ h c.if-s-n.true, c.requires.tables.few) }

pub bounds-trail-d : goal.bounds-trail-d
bounds-trail-d c =
    let l = c.loop-s in
    let h = (l.invariant.2 c.requires.order_len.2.0 c.requires.order_len.2.1).kept c.loop-s-test.true in
    omega (arith, here_room _ _ _ c.requires.limits _ _ _ _ _ h c.if-s-n.true, l.invariant.1, c.requires.order_len.1)

pub overflow_add-d : goal.overflow_add-d
overflow_add-d c =
    let h = (c.loop-s.invariant.2 c.requires.order_len.2.0 c.requires.order_len.2.1).kept
    c.loop-s-test.true in
    record { fits = omega (arith, here_room _ _ _ c.requires.limits _ _ _ _ _ h c.if-s-n.true, c.requires.tables.few) }

pub loop-s-smaller : goal.loop-s-smaller
loop-s-smaller c =
    let h = (c.loop-s.invariant.2 c.requires.order_len.2.0 c.requires.order_len.2.1).kept
    c.loop-s-test.true in
    omega (
      arith,
      (c.next_block-b.ensures _ h.way.sits
          (here_torn _ _ _ c.requires.limits _ _ _ _ _ h c.if-s-n.true)).counts,
    )

pub loop-s-preserved : goal.loop-s-preserved
loop-s-preserved c =
    let a = c.args in
    let l = c.loop-s in
    let low = c.loop-s-test.true in
    let more = c.if-s-n.true in
    let job = columns a.release.now a.minutes.now a.due.now in
    let h = (l.invariant.2 c.requires.order_len.2.0 c.requires.order_len.2.1).kept low in
    let b = c.next_block-b.result in (
      (c.next_block-b.ensures _ h.way.sits (here_torn _ _ _ c.requires.limits _ _ _ _ _ h more)).places,
      simp length-set l.invariant.1,
      λ free g.
          let h = (l.invariant.2 free g).kept low in
          let torn = here_torn _ _ _ c.requires.limits free _ _ _ _ h more in
          subst (λ (w : List ℕ). Came a.n job (at a.by.now) free a.bound (set l.trail l.d w) (l.d + 1) b.after)
          (sym (c.words_of.ensures h.way.sits.stands.words.size))
          (came_next _ _ _ c.requires.limits free _ _ _ _ h.done h.rest h.way torn low h.place
          (omega (arith, l.invariant.1, c.requires.order_len.1, here_room _ _ _ c.requires.limits _ _ _ _ _ h more)) h.held _ b _
          (c.next_block-b.ensures _ h.way.sits torn)),
    )
