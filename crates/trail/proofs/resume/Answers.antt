-- `resume` meets its contract: it goes on from the first block that holds the worst lateness, with block two, or leaves the search as it
-- is. Assumes nothing.
use Prim.Native.Nat.{ℕ, suc, ◌+◌}
use mathlib.Core.Path.{◌≡◌, refl}
use native.Mathlib.Omega.{arith}
use lib.ListN.{length-set}
use Rattle.trail.proofs.Trails.{sits_fit}
use Rattle.trail.proofs.Resumed.{lowered_room, ended_opening, block_from, ended_two, from_sits, from_torn, came_resumed}
use Rattle.trail.proofs.resume.Goals as goal

-- The place after the last block that stays.
follows : (k : ℕ) → k + 1 ≡ suc k
follows k = omega arith

pub returns-in_default : goal.returns-in_default
returns-in_default c = (
  c.requires.order_len.0,
  c.requires.order_len.1,
  λ free before g. ended_opening _ _ _ c.requires.limits free before _ _ _ g _ c.in_default.ensures refl,
)

pub returns-then-w-ne0 : goal.returns-then-w-ne0
returns-then-w-ne0 c = (
  c.requires.order_len.0,
  c.requires.order_len.1,
  λ free before g. ended_two _ _ _ c.requires.limits free before _ _ _ g _ c.in-Some.ensures _ (follows c.in-Some.k) c.if-w-ne0.true,
)

pub desk_of-s-requires : goal.desk_of-s-requires
desk_of-s-requires c =
    let g = c.requires.order_len.2 in
    let back = c.in-Some.ensures in
    let is = follows c.in-Some.k in
    let from = block_from _ _ _ c.requires.limits _ _ _ _ _ g.2 _ back _ is in
    (from.from, from.second, sits_fit _ _ _ c.requires.tables _ _ from.way.sits, from.held)

pub block_two-two-requires-clause-by_index : goal.block_two-two-requires-clause-by_index
block_two-two-requires-clause-by_index c =
    let g = c.requires.order_len.2 in
    let back = c.in-Some.ensures in
    let is = follows c.in-Some.k in
    let from = block_from _ _ _ c.requires.limits _ _ _ _ _ g.2 _ back _ is in
    let s = c.desk_of-s.ensures from.from from.second (sits_fit _ _ _ c.requires.tables _ _ from.way.sits) from.held in
    let z = c.if-w-ne0.false in (
      (
        from.rest,
        from_sits _ _ _ c.requires.limits _ _ _ _ _ g.2 _ back _ is z _ s,
        from_torn _ _ _ c.requires.limits _ _ _ _ _ g.2 _ back _ is z _ s,
      ),
      c.requires.order_len.0,
    )

pub onward-requires-clause-order_len : goal.onward-requires-clause-order_len
onward-requires-clause-order_len c =
    let g = c.requires.order_len.2 in
    let back = c.in-Some.ensures in
    let is = follows c.in-Some.k in
    let from = block_from _ _ _ c.requires.limits _ _ _ _ _ g.2 _ back _ is in
    let s = c.desk_of-s.ensures from.from from.second (sits_fit _ _ _ c.requires.tables _ _ from.way.sits) from.held in
    let z = c.if-w-ne0.false in
    let sits = from_sits _ _ _ c.requires.limits _ _ _ _ _ g.2 _ back _ is z _ s in
    let t = c.block_two-two.ensures _ sits (from_torn _ _ _ c.requires.limits _ _ _ _ _ g.2 _ back _ is z _ s) in (
      t.1.places,
      simp length-set c.requires.order_len.1,
      (
        g.0,
        came_resumed _ _ _ c.requires.limits _ _ _ _ _ g.2 _ back _ is z _ s
            (omega (arith, lowered_room _ _ _ c.requires.limits _ _ _ _ _ g.2, back.some, c.requires.order_len.1)) _ _ _ t _
            (c.words_of.ensures sits.stands.words.size),
      ),
    )

pub returns : goal.returns
returns c =
    let back = c.in-Some.ensures in
    let is = follows c.in-Some.k in
    let z = c.if-w-ne0.false in (
      c.onward.ensures.0,
      c.onward.ensures.1,
      λ free before g.
          let from = block_from _ _ _ c.requires.limits free before _ _ _ g _ back _ is in
          let s = c.desk_of-s.ensures from.from from.second (sits_fit _ _ _ c.requires.tables _ _ from.way.sits) from.held in
          let sits = from_sits _ _ _ c.requires.limits free before _ _ _ g _ back _ is z _ s in
          let t = c.block_two-two.ensures _ sits (from_torn _ _ _ c.requires.limits free before _ _ _ g _ back _ is z _ s) in
          c.onward.ensures.2 free
          (came_resumed _ _ _ c.requires.limits free before _ _ _ g _ back _ is z _ s
          (omega (arith, lowered_room _ _ _ c.requires.limits _ _ _ _ _ g, back.some, c.requires.order_len.1)) _ _ _ t _
          (c.words_of.ensures sits.stands.words.size)),
    )
