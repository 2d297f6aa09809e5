-- Each call of an open desk is refused exactly as the table says.
-- Assumes nothing.
use Prim.Native.Nat.{ℕ, ◌≤◌, ◌<◌}
use native.Mathlib.Omega.{arith}
use native.Mathlib.Decide.{dec_le}
use mathlib.Core.Bool.{Bool, true, false}
use mathlib.Core.Path.{◌≡◌, refl, sym, ap, ◌∙◌}
use mathlib.Core.List.{List, [], ◌∷◌}
use mathlib.Core.Logic.{◌↔◌}
use lib.ListN.{length}
use Rattle.schedule.specs.Desk.{Pair}
use Rattle.schedule.specs.Rows.{Day}
use Rattle.schedule.proofs.Tests.{false_is_true}
use Rattle.refusals.specs.Refusals.{by_range, by_narrow, by_unlisted}
use Rattle.refusals.specs.Tests.{refusal_at}
use Rattle.book.specs.Rows.{accepted}
use Rattle.readers.specs.Reads.{ordering_rule, read_by}
use Rattle.outcomes.specs.Planning.{Planning}
use Rattle.outcomes.specs.Outcomes.{plan_outcome}
use Rattle.outcomes.proofs.OutcomeLaws.{plan_unlisted}
use Rattle.outcomes.proofs.Sound.{Sound}
use Rattle.calls.specs.Answers.{Said, said_no, said_list, said_order}
use Rattle.promises.specs.Vocabulary.{Refuses}
use Rattle.promises.specs.Table.{Turned, ListTurned, PlanTurned}
use Rattle.promises.specs.Table as table
use Rattle.promises.proofs.Refused.{says_no, says_yes, turned, list_turned, plan_turned}
use Rattle.running.specs.Words.{desk_words, count_in, running, is_desk, IsDesk, keeps_pages, KeepsPages}
use Rattle.running.proofs.Fits.{desk_says, keeps_says}
use Rattle.rows_left.specs.Left.{plans_here}
use Rattle.rows_left.proofs.CanPlan.{can_plan_says, plans_here_says}
use Rattle.rows_left.proofs.Gathering.{left_ranged}
use Rattle.desk_open.proofs.OpenCall.{open_no, open_short, open_yes}
use Rattle.desk_plans.specs.Plans.{planning_left}
use Rattle.desk_plans.proofs.Sound.{sound_left}
use Rattle.desk_plans.proofs.PlanCalls.{list_away, list_here, plan_away, plan_here, no_plans, none_numbered}
use Rattle.desk_start.proofs.StartLaws.{start_none, start_no, start_yes}
use Rattle.rows_left.proofs.LeftRows.{left_rising}
use Rattle.desk_pace.proofs.PaceLaws.{pace_none, pace_no, pace_yes}
use Rattle.open_desk.specs.Answers.{said_open, said_start, said_pace}
use Rattle.open_desk.specs.History.{desk_open, desk_start, desk_pace, desk_list, desk_plan}
use Rattle.open_desk.specs.Table.{OpenTurned, narrow, StartTurned, PaceTurned, CanPlan, DeskTurned, no_desk, by_call}
use Rattle.open_desk.proofs.Starts.{Found, refuses, passes, found}
use Rattle.open_desk.proofs.Paces as paces

-- # Opening a desk
module _ (opening : ℕ) (book ws : List ℕ) where
  module _ (day : Day) (e : read_by (ordering_rule opening) book ≡ accepted day) where
    open_own : (n p : ℕ) → Refuses (desk_open opening book ws).answer n p ↔ OpenTurned ws n p
    open_own = step (dec_le desk_words (length ws))
      where
        only : (n p : ℕ) → OpenTurned ws n p → (by_narrow ≡ n) × (0 ≡ p)
        only _ _ (narrow h) = (refl, refl)

        wide : desk_words ≤ length ws → (n p : ℕ) → ¬ OpenTurned ws n p
        wide h _ _ (narrow l) = omega arith

        step : Dec (desk_words ≤ length ws) → (n p : ℕ) → Refuses (desk_open opening book ws).answer n p ↔ OpenTurned ws n p
        step (yes h) =
            says_yes (desk_open opening book ws).answer (OpenTurned ws)
            (ap (λ o. (said_open o.answer).number) (open_yes opening book ws day e h)) (wide h)
        step (no h) =
            let short : length ws < desk_words = omega arith in
            says_no (desk_open opening book ws).answer (OpenTurned ws) by_narrow 0 (omega arith)
            (ap (λ o. said_open o.answer) (open_short opening book ws day e short))
            (narrow short) only

  pub open_turned : (n p : ℕ) → Refuses (desk_open opening book ws).answer n p ↔
      Turned (ordering_rule opening) book (λ day. OpenTurned ws) n p
  open_turned = turned (ordering_rule opening) book (λ day. OpenTurned ws) (desk_open opening book ws).answer
      (λ n p e. ap (λ o. said_open o.answer) (open_no opening book ws n p e)) open_own

-- # Calls on lent words: these are no desk that the call can work on, or they are, and the call is refused by a condition of its own.
module _ (said : Said) (Here : Type 0) (Own : (n p : ℕ) → Type 0) where
  pub not_here : ¬ Here → said ≡ said_no by_range 0 → (n p : ℕ) → Refuses said n p ↔ DeskTurned Here Own n p
  not_here away e = says_no said (DeskTurned Here Own) by_range 0 (omega arith) e (no_desk away) only
    where
      only : (n p : ℕ) → DeskTurned Here Own n p → (by_range ≡ n) × (0 ≡ p)
      only _ _ (no_desk f) = (refl, refl)
      only _ _ (by_call n p here own) = absurd (away here)

  pub is_here : Here → ((n p : ℕ) → Refuses said n p ↔ Own n p) → (n p : ℕ) → Refuses said n p ↔ DeskTurned Here Own n p
  is_here here own n p = (λ h. by_call n p here ((own n p).0 h), back n p)
    where
      back : (n p : ℕ) → DeskTurned Here Own n p → Refuses said n p
      back _ _ (no_desk f) = absurd (f here)
      back _ _ (by_call n p h o) = (own n p).1 o

-- # A start
module _ (ws : List ℕ) (i m : ℕ) where
  pub start_own : is_desk ws ≡ true → (n p : ℕ) → Refuses (desk_start ws i m).answer n p ↔ StartTurned (running ws) i m n p
  start_own e = step (found (running ws) i m)
    where
      step : Found (running ws) i m → (n p : ℕ) → Refuses (desk_start ws i m).answer n p ↔ StartTurned (running ws) i m n p
      step (refuses n p l t u only) =
          says_no (desk_start ws i m).answer (StartTurned (running ws) i m) n p l
          (ap (λ o. said_start o.answer) (start_no ws i m e (refusal_at n p) t)) u only
      step (passes t never) =
          says_yes (desk_start ws i m).answer (StartTurned (running ws) i m)
          (ap (λ o. (said_start o.answer).number) (start_yes ws i m e t)) never

  pub start_turned : (n p : ℕ) → Refuses (desk_start ws i m).answer n p ↔ DeskTurned (IsDesk ws) (StartTurned (running ws) i m) n p
  start_turned = step (is_desk ws) refl
    where
      step : (b : Bool) → is_desk ws ≡ b → (n p : ℕ) →
          Refuses (desk_start ws i m).answer n p ↔ DeskTurned (IsDesk ws) (StartTurned (running ws) i m) n p
      step false e = not_here (desk_start ws i m).answer (IsDesk ws) (StartTurned (running ws) i m)
          (λ d. false_is_true (sym e ∙ (desk_says ws).1 d)) (ap (λ o. said_start o.answer) (start_none ws i m e))
      step true e = is_here (desk_start ws i m).answer (IsDesk ws) (StartTurned (running ws) i m) ((desk_says ws).0 e) (start_own e)

-- # A change of pace
module _ (ws : List ℕ) (pace : ℕ) where
  pub pace_own : keeps_pages ws ≡ true → (n p : ℕ) → Refuses (desk_pace ws pace).answer n p ↔ PaceTurned (running ws) pace n p
  pace_own e = step (paces.found (running ws) pace (count_in ws) (left_rising ws (count_in ws)))
    where
      step : paces.Found (running ws) pace → (n p : ℕ) → Refuses (desk_pace ws pace).answer n p ↔ PaceTurned (running ws) pace n p
      step (paces.refuses n p l t u only) =
          says_no (desk_pace ws pace).answer (PaceTurned (running ws) pace) n p l
          (ap (λ o. said_pace o.answer) (pace_no ws pace e (refusal_at n p) t)) u only
      step (paces.passes t within r never) =
          says_yes (desk_pace ws pace).answer (PaceTurned (running ws) pace)
          (ap (λ o. (said_pace o.answer).number) (pace_yes ws pace e t)) never

  pub pace_turned : (n p : ℕ) → Refuses (desk_pace ws pace).answer n p ↔ DeskTurned (KeepsPages ws) (PaceTurned (running ws) pace) n p
  pace_turned = step (keeps_pages ws) refl
    where
      step : (b : Bool) → keeps_pages ws ≡ b → (n p : ℕ) →
          Refuses (desk_pace ws pace).answer n p ↔ DeskTurned (KeepsPages ws) (PaceTurned (running ws) pace) n p
      step false e = not_here (desk_pace ws pace).answer (KeepsPages ws) (PaceTurned (running ws) pace)
          (λ d. false_is_true (sym e ∙ (keeps_says ws).1 d)) (ap (λ o. said_pace o.answer) (pace_none ws pace e))
      step true e = is_here (desk_pace ws pace).answer (KeepsPages ws) (PaceTurned (running ws) pace) ((keeps_says ws).0 e) (pace_own e)

-- # The list and an order
module _ (ws : List ℕ) where
  abbrev g : Planning
  g = planning_left (running ws)

  pub here : plans_here ws ≡ true → CanPlan ws
  here e =
      let h = (plans_here_says ws).0 e in
      let c = (can_plan_says (running ws)).0 h.1 in
      record { desk = h.0; room = c.0; agree = c.1 }

  pub here_is : CanPlan ws → plans_here ws ≡ true
  here_is c = (plans_here_says ws).1 (c.desk, (can_plan_says (running ws)).1 (c.room, c.agree))

  -- Where a row is left, what is planned is sound.
  pub sound : CanPlan ws → 0 < length (running ws).left → Sound g
  sound c some = sound_left (running ws) some (left_ranged c.desk) ((can_plan_says (running ws)).1 (c.room, c.agree))

  pub list_own : CanPlan ws → (b : List ℕ) (n p : ℕ) → Refuses (desk_list ws b).answer n p ↔ ListTurned g b n p
  list_own c b = rw (list_here ws b (here_is c)) (list_turned g b)

  pub list_refused : (b : List ℕ) (n p : ℕ) → Refuses (desk_list ws b).answer n p ↔ DeskTurned (CanPlan ws) (ListTurned g b) n p
  list_refused b = step (plans_here ws) refl
    where
      step : (t : Bool) → plans_here ws ≡ t → (n p : ℕ) →
          Refuses (desk_list ws b).answer n p ↔ DeskTurned (CanPlan ws) (ListTurned g b) n p
      step false e = not_here (desk_list ws b).answer (CanPlan ws) (ListTurned g b) (λ c. false_is_true (sym e ∙ here_is c))
          (ap (λ o. said_list o.answer) (list_away ws b e))
      step true e = is_here (desk_list ws b).answer (CanPlan ws) (ListTurned g b) (here e) (list_own (here e) b)

  -- With no row left, no plan has a number.
  plan_none : (running ws).left ≡ [] → (k : ℕ) (b : List ℕ) (n p : ℕ) →
      Refuses (said_order (plan_outcome g k b).answer) n p ↔ PlanTurned g k b n p
  plan_none e k b =
      says_no (said_order (plan_outcome g k b).answer) (PlanTurned g k b) by_unlisted (length g.plans) (omega arith)
      (ap (λ o. said_order o.answer) (plan_unlisted g k b (none_numbered (running ws) e k))) (table.unlisted unlisted) only
    where
      unlisted : ¬ ((1 ≤ k) × (k ≤ length g.plans))
      unlisted h = omega (arith, h, ap (λ (ps : List Pair). length ps) (no_plans (running ws) e))

      only : (n p : ℕ) → PlanTurned g k b n p → (by_unlisted ≡ n) × (length g.plans ≡ p)
      only _ _ (table.unlisted f) = (refl, refl)
      only _ _ (table.narrow f h l) = absurd (unlisted (f, h))

  pub plan_own : CanPlan ws → (k : ℕ) (b : List ℕ) (n p : ℕ) → Refuses (desk_plan ws k b).answer n p ↔ PlanTurned g k b n p
  plan_own c k b = rw (plan_here ws b k (here_is c)) (step (running ws).left refl)
    where
      step : (is : List ℕ) → (running ws).left ≡ is → (n p : ℕ) →
          Refuses (said_order (plan_outcome g k b).answer) n p ↔ PlanTurned g k b n p
      step [] e = plan_none e k b
      step (i ∷ is) e = plan_turned g (sound c (omega (arith, ap (λ (js : List ℕ). length js) e))) k b

  pub plan_refused : (k : ℕ) (b : List ℕ) (n p : ℕ) →
      Refuses (desk_plan ws k b).answer n p ↔ DeskTurned (CanPlan ws) (PlanTurned g k b) n p
  plan_refused k b = step (plans_here ws) refl
    where
      step : (t : Bool) → plans_here ws ≡ t → (n p : ℕ) →
          Refuses (desk_plan ws k b).answer n p ↔ DeskTurned (CanPlan ws) (PlanTurned g k b) n p
      step false e = not_here (desk_plan ws k b).answer (CanPlan ws) (PlanTurned g k b) (λ c. false_is_true (sym e ∙ here_is c))
          (ap (λ o. said_order o.answer) (plan_away ws b k e))
      step true e = is_here (desk_plan ws k b).answer (CanPlan ws) (PlanTurned g k b) (here e) (plan_own (here e) k b)
