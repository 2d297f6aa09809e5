-- Desks with the same rows left at two minutes have lists that move by no more than the difference.
-- Assumes nothing.
use Prim.Native.Nat.{ℕ, ◌-◌, ◌*◌, ◌≤◌}
use native.Mathlib.Omega.{arith}
use native.Mathlib.Decide.{dec_le}
use mathlib.Core.Bool.{Bool, true, false}
use mathlib.Core.Path.{◌≡◌, refl, sym, ap, ◌∙◌, subst}
use mathlib.Core.List.Memᴰ
use mathlib.Core.List.{List, [], ◌∷◌}
use lib.ListN.{length}
use Rattle.theory.specs.Jobs.{Job}
use Rattle.schedule.specs.Desk.{Pair}
use Rattle.schedule.specs.LaterStart.{ListMoves}
use Rattle.schedule.proofs.LaterStart.{later_start}
use Rattle.refusals.specs.Refusals.{by_narrow}
use Rattle.results.specs.Results.{written, plan_words, plans_in}
use Rattle.outcomes.specs.Planning.{Planning}
use Rattle.outcomes.specs.Outcomes.{list_outcome}
use Rattle.outcomes.proofs.OutcomeLaws.{list_is}
use Rattle.calls.specs.Answers.{said_list}
use Rattle.promises.specs.Vocabulary.{told, listed}
use Rattle.promises.specs.Table.{narrow}
use Rattle.promises.proofs.Kept.{listed_same}
use Rattle.running.specs.Running.{Running, job_in, moved}
use Rattle.running.specs.Words.{running}
use Rattle.running.proofs.Fits.{desk_says}
use Rattle.running.proofs.Moves.{moved_held}
use Rattle.rows_left.specs.Left.{plans_here}
use Rattle.desk_start.proofs.StartLaws.{start_yes}
use Rattle.desk_plans.specs.Plans.{plans_from, planning_left}
use Rattle.desk_plans.proofs.PlanCalls.{list_away, list_here, no_plans}
use Rattle.open_desk.specs.History.{desk_start, desk_list}
use Rattle.open_desk.specs.Table.{CanPlan}
use Rattle.open_desk.specs.LaterStart.{LaterDesk}
use Rattle.open_desk.proofs.Starts.{start_passed}
use Rattle.open_desk.proofs.Refused as refused

-- A list that is not refused is that of the rows left.
module _ (ws b : List ℕ) (granted : (desk_list ws b).answer.number ≡ 0) where
  abbrev g : Planning
  g = planning_left (running ws)

  can : CanPlan ws
  can = step (plans_here ws) refl
    where
      step : (t : Bool) → plans_here ws ≡ t → CanPlan ws
      step false e = let z : ⊥ = omega (arith, granted, ap (λ o. (said_list o.answer).number) (list_away ws b e)) in absurd z
      step true e = refused.here ws e

  wide : 2 * length g.left ≤ length b
  wide = step (dec_le (2 * length g.left) (length b))
    where
      step : Dec (2 * length g.left ≤ length b) → 2 * length g.left ≤ length b
      step (yes h) = h
      step (no h) =
          let r = (refused.list_own ws can b by_narrow 0).1 (narrow (omega arith)) in
          let z : ⊥ = omega (arith, granted, r.1) in
          absurd z

  listed_left : listed (desk_list ws b) ≡ g.plans
  unfolding plans_in
  listed_left = ap (λ o. listed (told said_list o)) (list_here ws b (refused.here_is ws can)) ∙ step (running ws).left refl
    where
      step : (is : List ℕ) → (running ws).left ≡ is → listed (told said_list (list_outcome g b)) ≡ g.plans
      step [] e =
          let none = no_plans (running ws) e in
          ap (λ o. listed (told said_list o)) (list_is g b wide) ∙
          ap (λ (ps : List Pair). plans_in (length ps) (written (plan_words ps) b)) none ∙ sym none
      step (i ∷ is) e =
          let s = refused.sound ws can (omega (arith, ap (λ (js : List ℕ). length js) e)) in
          listed_same g s b wide ∙ sym s.front

-- The lists of rows left; of none there are no plans.
left_moves : (job : ℕ → Job) (t later : ℕ) (left : List ℕ) → t ≤ later →
    ListMoves (later - t) (plans_from job t left) (plans_from job later left)
unfolding plans_from
left_moves job t later [] h =
    record { met_earlier = λ p m. absurd (Memᴰ.not-nil m); met_later = λ p m. absurd (Memᴰ.not-nil m) }
left_moves job t later (i ∷ is) h = (later_start job t later h).lists (i ∷ is)

-- Two desks that hold the same rows, of which the same are left.
same_left : (ws vs b c : List ℕ) → (running vs).rows ≡ (running ws).rows → (running vs).left ≡ (running ws).left →
    (running ws).minute ≤ (running vs).minute → (desk_list ws b).answer.number ≡ 0 → (desk_list vs c).answer.number ≡ 0 →
    ListMoves ((running vs).minute - (running ws).minute) (listed (desk_list ws b)) (listed (desk_list vs c))
same_left ws vs b c rows left h x y =
    let d = running ws in
    let later : listed (desk_list vs c) ≡ plans_from (job_in d.rows) (running vs).minute d.left =
    listed_left vs c y ∙ (λ i. plans_from (job_in (rows i)) (running vs).minute (left i)) in
    rw (listed_left ws b x, later) (left_moves (job_in d.rows) d.minute (running vs).minute d.left h)

-- A start that is not refused leaves the desk after it.
started : (ws : List ℕ) (i m : ℕ) → (desk_start ws i m).answer.number ≡ 0 → running (desk_start ws i m).buffer ≡ moved (running ws) i m
started ws i m granted =
    let p = start_passed ws i m granted in
    ap (λ o. running o.buffer) (start_yes ws i m p.0 p.1) ∙ (moved_held ws ((desk_says ws).0 p.0) i m p.1).1

pub later_desk : LaterDesk
later_desk = record { same_left = same_left; next = next }
  where
    next : (ws b c : List ℕ) (i m later : ℕ) → m ≤ later →
        let soon = desk_start ws i m in
        let late = desk_start ws i later in
        soon.answer.number ≡ 0 → late.answer.number ≡ 0 →
        (desk_list soon.buffer b).answer.number ≡ 0 → (desk_list late.buffer c).answer.number ≡ 0 →
        ListMoves (later - m) (listed (desk_list soon.buffer b)) (listed (desk_list late.buffer c))
    next ws b c i m later h s l x y =
        let vs = (desk_start ws i m).buffer in
        let us = (desk_start ws i later).buffer in
        let a = started ws i m s in
        let e = started ws i later l in
        let soon = ap (λ (d : Running). d.minute) a in
        let late = ap (λ (d : Running). d.minute) e in
        let apart : (running us).minute - (running vs).minute ≡ later - m = omega (arith, soon, late, h) in
        subst (λ (n : ℕ). ListMoves n (listed (desk_list vs b)) (listed (desk_list us c))) apart
        (same_left vs us b c (ap (λ (d : Running). d.rows) e ∙ sym (ap (λ (d : Running). d.rows) a))
        (ap (λ (d : Running). d.left) e ∙ sym (ap (λ (d : Running). d.left) a)) (omega (arith, soon, late)) x y)
