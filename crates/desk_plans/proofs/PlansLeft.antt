-- The calls on the columns of the rows left are the calls on the desk: the same list, and the same order under the rows' own numbers.
-- Assumes nothing.
use Prim.Native.Nat.{ℕ, ◌*◌, ◌≤◌, ◌<◌}
use native.Mathlib.Omega.{arith}
use native.Mathlib.Decide.{dec_le}
use mathlib.Core.Bool.{true, false}
use mathlib.Core.Path.{◌≡◌, refl, sym, ap, ◌∙◌, subst}
use mathlib.Core.List.{List, [], ◌∷◌, map, Memᴰ}
use mathlib.Core.Option
use mathlib.Core.Option.{Option, none, some}
use lib.ListN.{length, drop, length-append, length-drop, get_or-append}
use lib.IntN.{ℤ}
use Rattle.std.specs.Prelude as prelude
use Rattle.std.specs.Prelude.{Some, None, Ok, Err}
use Rattle.theory.specs.Jobs.{Job}
use Rattle.schedule.specs.Limits.{most_rows}
use Rattle.schedule.specs.declared.Profile.TheVariants.{Ordering}
use Rattle.schedule.specs.Rows.{count_from}
use Rattle.schedule.specs.Desk.{Pair, OrderOf}
use Rattle.schedule.specs.Cover.{Agreeing}
use Rattle.schedule.specs.Profiles.{plans_by, order_by}
use Rattle.schedule.specs.Columns.{at}
use Rattle.schedule.proofs.Numbers.{length_count, count_range}
use Rattle.schedule.proofs.Orders.{perm_all}
use Rattle.schedule.proofs.Renumbered.{renumbered, agreeing, same_plans, pair_renumbered}
use Rattle.refusals.specs.Refusals.{by_unlisted}
use Rattle.refusals.specs.Tests.{refusal_at}
use Rattle.results.specs.Results.{written, plan_words}
use Rattle.outcomes.specs.Outcomes.{OrderAnswer, list_outcome, order_outcome, plan_outcome}
use Rattle.outcomes.specs.Planning.{Outcome, gives, nth, Planning, planning_in}
use Rattle.outcomes.specs.Plannable.{Plannable}
use Rattle.outcomes.proofs.OutcomeLaws.{list_narrow, list_is, plan_is, plan_unlisted, order_narrow, order_some, order_none}
use Rattle.outcomes.proofs.Sound.{posted}
use Rattle.outcomes.proofs.Columns.{sound_in, order_length, posting_rows}
use Rattle.running.specs.Running.{job_in}
use Rattle.running.specs.Words.{count_in, minute_in, rows_in, left_to, running, IsDesk}
use Rattle.rows_left.specs.declared.Left.{Left}
use Rattle.rows_left.specs.Left.{can_plan, plans_here}
use Rattle.rows_left.specs.Gathered.{jobs_left, Gathered, Looked}
use Rattle.rows_left.proofs.CanPlan.{can_plan_says, plans_here_says}
use Rattle.rows_left.proofs.Gathering.{few_left, left_ranged, columns_within, left_matches, left_renumbers}
use Rattle.desk_plans.specs.Plans.{planning_left, desk_list_call, desk_plan_call}
use Rattle.desk_plans.proofs.RowsPut.{put_to, written_put}
use Rattle.desk_plans.proofs.Sound.{sound_left}
use Rattle.desk_plans.proofs.PlanCalls.{list_here, plan_here, no_plans, none_numbered}

-- What is known of a look that gives rows left, and of one that gives none.
pub record Ready (ws : List ℕ) (left : Left) : Type 0 where
  pub here : plans_here ws ≡ true
  pub desk : IsDesk ws
  pub can : can_plan (running ws) ≡ true
  pub rows : Gathered ws left

pub ready : (ws : List ℕ) (o : prelude.Option Left) (left : Left) → Looked ws o → o ≡ Some left → Ready ws left
ready ws o left l e =
    let looked = subst (Looked ws) e l in
    let h = (plans_here_says ws).0 looked.0 in
    record { here = looked.0; desk = h.0; can = h.1; rows = looked.1 }

pub away : (ws : List ℕ) (o : prelude.Option Left) → Looked ws o → o ≡ None → plans_here ws ≡ false
away ws o l e = subst (Looked ws) e l

module _ (ws : List ℕ) (left : Left) (r : Ready ws left) where
  abbrev desk : Planning
  desk = planning_left (running ws)

  no_row : left.count ≡ 0 → (running ws).left ≡ []
  no_row e = nothing (left_to ws (count_in ws)) (sym r.rows.counted ∙ e)
    where
      nothing : (is : List ℕ) → length is ≡ 0 → is ≡ []
      nothing [] h = refl
      nothing (i ∷ is) h = let z : ⊥ = omega arith in absurd z

  pub list_none : left.count ≡ 0 → (b : List ℕ) → gives (Ok 0) b ≡ desk_list_call ws b
  unfolding written plan_words
  list_none e b =
      let size : length desk.left ≡ 0 = sym r.rows.counted ∙ e in
      sym (list_here ws b r.here ∙ list_is desk b (omega (arith, size)) ∙
      ap (λ (ps : List Pair). gives (Ok (length ps)) (written (plan_words ps) b)) (no_plans (running ws) (no_row e)))

  pub plan_none : left.count ≡ 0 → (k : ℕ) (b : List ℕ) → gives (Err (refusal_at by_unlisted 0)) b ≡ desk_plan_call ws k b
  plan_none e k b =
      sym (plan_here ws b k r.here ∙ plan_unlisted desk k b (none_numbered (running ws) (no_row e) k) ∙
      ap (λ (ps : List Pair). gives (Err (refusal_at by_unlisted (length ps))) b) (no_plans (running ws) (no_row e)))

  module _ (some_row : 1 ≤ left.count) where
    abbrev n : ℕ
    n = left.count

    abbrev job : ℕ → Job
    job = job_in (rows_in ws)

    abbrev job' : ℕ → Job
    job' = jobs_left left

    abbrev row : ℕ → ℕ
    row = at left.rows

    agree : Agreeing job (left_to ws (count_in ws))
    agree = ((can_plan_says (running ws)).0 r.can).1

    pub plannable : Plannable Ordering job' (minute_in ws) n
    plannable =
        let g = r.rows in
        let w = columns_within ws g.counted g.numbered r.desk g.released g.timed g.dated in
        let few = few_left r.desk g.counted in
        record {
          limits = record { releases = λ i. (w i).0; lengths = λ i. (w i).1; dues = λ i. (w i).2 };
          low = some_row;
          few = few;
          early = omega (arith, ((can_plan_says (running ws)).0 r.can).0, g.counted);
          rule = agreeing (left_renumbers ws left g) (left_matches ws left g) agree;
        }

    abbrev columns : Planning
    columns = planning_in Ordering job' (minute_in ws) n

    plans_same : columns.plans ≡ desk.plans
    unfolding plans_by
    plans_same =
        let s = sound_left (running ws) (omega (arith, r.rows.counted)) (left_ranged r.desk) r.can in
        sym (same_plans (left_renumbers ws left r.rows) (left_matches ws left r.rows) (minute_in ws) agree some_row s.fits
        (sound_in plannable).fits) ∙
        sym s.front

    order_there : (y : ℤ) (o : Option (List ℕ)) → columns.orders y ≡ o → desk.orders y ≡ Option.map (map row) o
    unfolding order_by
    order_there y o e =
        renumbered (left_renumbers ws left r.rows) (left_matches ws left r.rows) (minute_in ws) y ∙ ap (Option.map (map row)) e

    sizes : (length columns.left ≡ n) × (length desk.left ≡ n)
    sizes = (length_count 1 n, sym r.rows.counted)

    pub list_done : (b : List ℕ) → list_outcome columns b ≡ desk_list_call ws b
    list_done b = step (dec_le (2 * n) (length b)) ∙ sym (list_here ws b r.here)
      where
        step : Dec (2 * n ≤ length b) → list_outcome columns b ≡ list_outcome desk b
        step (yes h) =
            list_is columns b (omega (arith, sizes)) ∙
            ap (λ (ps : List Pair). gives (Ok (length ps)) (written (plan_words ps) b)) plans_same ∙
            sym (list_is desk b (omega (arith, sizes)))
        step (no h) = list_narrow columns b (omega (arith, sizes)) ∙ sym (list_narrow desk b (omega (arith, sizes)))

    module _ (k : ℕ) (b : List ℕ) where
      -- What the call comes to, from what planning on the columns gives: an order's places are rows still to be put in their stead.
      abbrev pub Comes : OrderAnswer → List ℕ → Type 0
      Comes (Ok pair) after =
          (n ≤ length after) × ((i : ℕ) → i < n → at after i ≤ most_rows) ×
          (gives (Ok pair) (put_to row after n) ≡ desk_plan_call ws k b)
      Comes (Err refusal) after = gives (Err refusal) after ≡ desk_plan_call ws k b

      abbrev ComesOf : Outcome OrderAnswer → Type 0
      ComesOf o = Comes o.answer o.buffer

      module _ (y : ℤ) (call : order_outcome desk y b ≡ desk_plan_call ws k b) where
        order_found : n ≤ length b → (order : List ℕ) → columns.orders y ≡ some order → ComesOf (order_outcome columns y b)
        unfolding written
        order_found h order e =
            let o : OrderOf (count_from 1 n) order = ((sound_in plannable).promise.best y order e).0 in
            let size = order_length plannable o in
            let within : (i : ℕ) → Memᴰ i order → (1 ≤ i) × (i ≤ n) =
            perm_all (λ i. (1 ≤ i) × (i ≤ n)) o (λ i m. omega (arith, count_range 1 n m)) in
            let pair = pair_renumbered (left_renumbers ws left r.rows) (left_matches ws left r.rows) (minute_in ws) order within in
            let put = written_put row order b n size in
            subst ComesOf (sym (order_some columns y b (omega (arith, sizes)) order e)) (
              omega (arith, size, length-append order (drop (length order) b), length-drop (length order) b),
              λ i l. omega (
                arith,
                get_or-append order (drop (length order) b) 0 i (omega arith),
                posting_rows plannable order ((posted n order).1 o) i,
              ),
              (λ x. gives (Ok (record { end = (sym pair x).end; late = (sym pair x).late })) (sym put x)) ∙
                  sym (order_some desk y b (omega (arith, sizes)) (map row order) (order_there y (some order) e)) ∙ call,
            )

        order_comes : ComesOf (order_outcome columns y b)
        order_comes = step (dec_le n (length b))
          where
            found : n ≤ length b → (o : Option (List ℕ)) → columns.orders y ≡ o → ComesOf (order_outcome columns y b)
            found h none e =
                subst ComesOf (sym (order_none columns y b (omega (arith, sizes)) e))
                (sym (order_none desk y b (omega (arith, sizes)) (order_there y none e)) ∙ call)
            found h (some order) e = order_found h order e

            step : Dec (n ≤ length b) → ComesOf (order_outcome columns y b)
            step (yes h) = found h (columns.orders y) refl
            step (no h) =
                subst ComesOf (sym (order_narrow columns y b (omega (arith, sizes))))
                (sym (order_narrow desk y b (omega (arith, sizes))) ∙ call)

      plan_comes : ComesOf (plan_outcome columns k b)
      plan_comes = step (nth columns.plans k) refl
        where
          there : (o : Option Pair) → nth columns.plans k ≡ o → nth desk.plans k ≡ o
          there o e = sym (ap (λ (ps : List Pair). nth ps k) plans_same) ∙ e

          step : (o : Option Pair) → nth columns.plans k ≡ o → ComesOf (plan_outcome columns k b)
          step none e =
              subst ComesOf (sym (plan_unlisted columns k b e))
              (ap (λ (ps : List Pair). gives (Err (refusal_at by_unlisted (length ps))) b) plans_same ∙
              sym (plan_unlisted desk k b (there none e)) ∙ sym (plan_here ws b k r.here))
          step (some q) e =
              subst ComesOf (sym (plan_is columns k q b e))
              (order_comes q.late (sym (plan_is desk k q b (there (some q) e)) ∙ sym (plan_here ws b k r.here)))

      pub plan_done : {answer told : OrderAnswer} (after : List ℕ) → gives answer after ≡ plan_outcome columns k b → answer ≡ told →
          Comes told after
      plan_done after e f = subst (λ (a : OrderAnswer). Comes a after) f (subst ComesOf (sym e) plan_comes)
