-- `first_plans` meets its contract: each turn takes the first plan of one desk more. Assumes nothing.
use Prim.Native.Nat.{◌<◌}
use native.Mathlib.Omega.{arith}
use mathlib.Core.Path.{sym, ◌∙◌}
use Rattle.choice.proofs.Taking.{taking_none, taking_more, taken_all, none_within, inside}
use Rattle.choice.proofs.first_plans.Goals as goal
use Rattle.choice.proofs.first_plans.Goals.{Else-k-count}
use Rattle.schedule.specs.Limits.{most_rows}
use Rattle.schedule.specs.Columns.{at}

pub loop-d-init : goal.loop-d-init
loop-d-init c = taking_none _ _ _ _ _ c.requires.3

pub place_within-k-requires : goal.place_within-k-requires
place_within-k-requires c =
    let loop = c.loop-d in
    let l = c.requires.2 loop.d (omega arith) in
    (l.few, l.late_places, loop.invariant.behind.behind loop.d (omega arith))

pub returns-then-k-count : goal.returns-then-k-count
returns-then-k-count c =
    let loop = c.loop-d in
    let place-within = c.place_within-k in
    let if1 = c.if-k-count in
    let l = loop in (
      none_within c.args.plans.now c.args.fronts.now c.args.closings.now c.args.bound c.requires.2 l.d
          (omega arith)
          (sym place-within.ensures ∙ if1.true),
      l.invariant.behind,
    )

-- The place of the desk's first plan within the bound is one of its list.
listed : (c : Else-k-count) → (c.place_within-k.result < at c.args.plans.now c.loop-d.d) × (c.place_within-k.result < most_rows)
listed c =
    inside c.args.plans.now c.args.fronts.now c.args.closings.now c.args.bound c.requires.2 c.loop-d.d (omega arith) _
    c.place_within-k.ensures c.if-k-count.false

pub offset_bounds-fronts-k : goal.offset_bounds-fronts-k
offset_bounds-fronts-k c = record { fits = omega (arith, (listed (goal.at.offset_bounds-fronts-k c).Else-k-count).1) }

pub bounds-fronts-k : goal.bounds-fronts-k
bounds-fronts-k c = (listed (goal.at.bounds-fronts-k c).Else-k-count).1

pub offset_bounds-fronts-k-in-loop-d : goal.offset_bounds-fronts-k-in-loop-d
offset_bounds-fronts-k-in-loop-d c =
    record { fits = omega (arith, (listed (goal.at.offset_bounds-fronts-k-in-loop-d c).Else-k-count).1) }

pub bounds-fronts-k-else-k-count : goal.bounds-fronts-k-else-k-count
bounds-fronts-k-else-k-count c = (listed (goal.at.bounds-fronts-k-else-k-count c).Else-k-count).1

pub loop-d-preserved : goal.loop-d-preserved
loop-d-preserved c =
    let loop = c.loop-d in
    let place-within = c.place_within-k in
    let worse = c.max-late in
    let over = c.from-overtime.ensures ∙ c.over.ensures in
    taking_more c.args.plans.now c.args.fronts.now c.args.closings.now c.args.bound c.requires.2 _ _ _ _
    loop.invariant
    (omega arith) (omega arith) _ place-within.ensures (listed (goal.at.loop-d-preserved c).Else-k-count).0 _ _ worse.ensures
    over (omega (arith, over))

pub returns : goal.returns
returns c =
    let l = c.loop-d in (
      taken_all c.args.plans.now c.args.fronts.now c.args.closings.now c.args.bound c.requires.2 _ _ _ _ l.invariant
          (omega arith) (omega arith),
      l.invariant.behind,
    )
