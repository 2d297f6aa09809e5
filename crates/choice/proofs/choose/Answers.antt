-- `choose` meets its contract. The invariant: what is taken so far, with a bound one below it, and cursors that are not past that bound's
-- plans. The measure is the bound.
-- Assumes nothing.
use native.Mathlib.Omega.{arith}
use mathlib.Core.Path.{refl, sym, ◌∙◌}
use Rattle.choice.proofs.Choosing.{ends_none, ends_over, Goes, goes, behind_first, behind_smaller}
use Rattle.choice.proofs.choose.Goals as goal
use Rattle.choice.proofs.choose.Goals.{Else-from-taken}

pub loop-taken-init : goal.loop-taken-init
loop-taken-init c = (refl, behind_first _ _ _ _ c.requires.1)

pub first_plans-requires : goal.first_plans-requires
first_plans-requires c = let p = c.requires in (p.0, p.1, p.2, c.loop-taken.invariant.1)

pub returns : goal.returns
returns c =
    let l = c.loop-taken in
    ends_none c.args.plans.now c.args.fronts.now c.args.closings.now c.args.limit c.requires.2 c.requires.0 l.bound l.best l.invariant.0
    (sym c.first_plans.ensures.0 ∙ c.in_default.is)

pub returns-then-from-taken : goal.returns-then-from-taken
returns-then-from-taken c =
    let l = c.loop-taken in
    ends_over c.args.plans.now c.args.fronts.now c.args.closings.now c.args.limit c.requires.2 c.requires.0 l.bound l.best l.invariant.0
    _ _ (sym c.first_plans.ensures.0 ∙ c.in-Some.is) (omega (arith, c.from.ensures))

-- The first plans keep the limit.
went : (c : Else-from-taken) → Goes c.args.plans.now c.args.fronts.now c.args.closings.now c.args.limit c.requires.2 c.requires.0
    c.loop-taken.bound c.in-Some.taken.late c.in-Some.taken.overtime
went c =
    goes c.args.plans.now c.args.fronts.now c.args.closings.now c.args.limit c.requires.2 c.requires.0 c.loop-taken.bound _ _
    (sym c.first_plans.ensures.0 ∙ c.in-Some.is) (omega (arith, c.from.ensures))

pub overflow_sub-bound : goal.overflow_sub-bound
overflow_sub-bound c = (went (goal.at.overflow_sub-bound c).Else-from-taken).stands.low

pub loop-taken-smaller : goal.loop-taken-smaller
loop-taken-smaller c =
    let g = went (goal.at.loop-taken-smaller c).Else-from-taken in
    omega (arith, g.within, g.stands.low)

pub loop-taken-preserved : goal.loop-taken-preserved
loop-taken-preserved c =
    let g = went (goal.at.loop-taken-preserved c).Else-from-taken in
    (g.stands, behind_smaller _ _ _ _ _ _ (omega (arith, g.within)) c.first_plans.ensures.1)
