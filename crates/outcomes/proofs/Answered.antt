-- From what the parts of a call answer, of rows in columns, to the outcome of what is planned there.
-- Assumes nothing.
use Prim.Native.Nat.{ℕ, suc, ◌-◌, ◌*◌, ◌≤◌, ◌<◌}
use native.Mathlib.Omega.{arith}
use mathlib.Core.Bool.{Bool, true, false, cond}
use mathlib.Core.Path.{◌≡◌, refl, sym, ap, ◌∙◌, subst}
use mathlib.Core.List.{List, [], ◌∷◌, ◌++◌}
use mathlib.Core.Option.{Option, none, some}
use lib.ListN.{length, drop, get_or}
use lib.IntN.{ℤ}
use mir.Syntax.{w32}
use mir.Val.{SFits, to_z, of_z}
use mir.ValLaws.{to_z-of_z}
use Rattle.std.specs.Prelude.{Ok, Err, Some, None}
use Rattle.theory.specs.Jobs.{Job}
use Rattle.schedule.specs.declared.Desk.{Desk}
use Rattle.schedule.specs.declared.Profile.{Profile}
use Rattle.schedule.specs.Desk.{Pair, end_of, pair_of}
use Rattle.schedule.specs.Plans.{beats, first_beating}
use Rattle.schedule.specs.Offset.{raised, lowered}
use Rattle.schedule.proofs.SignedWords.{lowered_raised}
use Rattle.schedule.proofs.Numbers.{length_count}
use Rattle.refusals.proofs.Tests.{never}
use Rattle.refusals.specs.Tests.{refusal_at}
use Rattle.postings.specs.Posting.{posting_tests}
use Rattle.listing.specs.PlanFor.{Planned, planned_of}
use Rattle.listing.specs.declared.Front.{Front}
use Rattle.listing.specs.Fronts.{pair_at, held, Sized, HoldsPlans}
use Rattle.listing.proofs.Fronts.{held_at, plans_sized, plans_held}
use Rattle.arrival.specs.Given.{written_of, OrderGiven, Followed}
use Rattle.results.specs.Results.{written, plan_words, or_zero}
use Rattle.outcomes.specs.Outcomes.{OrderAnswer, judged_of, list_outcome, order_outcome, plan_outcome, verdict_outcome}
use Rattle.outcomes.specs.Planning.{Outcome, gives, nth, Planning, planning_in}
use Rattle.outcomes.specs.Plannable.{Plannable}
use Rattle.outcomes.proofs.OutcomeLaws.{list_narrow, list_is, plan_is, plan_unlisted, verdict_no, verdict_is}
use Rattle.outcomes.proofs.OutcomeLaws.{order_narrow, order_some, order_none}
use Rattle.outcomes.proofs.Plans.{nth_in, nth_zero, nth_out}
use Rattle.outcomes.proofs.Columns.{sound_in, order_lowers, plan_lowers, posting_order, posting_length}
use Rattle.outcomes.specs.declared.Verdict.{Verdict}
use Rattle.outcomes.specs.declared.Verdict.TheVariants as verdict
use Rattle.refusals.specs.declared.Refusal.{Refusal}

-- The signed bound that a caller raises comes back.
pub bound_back : (y : ℤ) (n : ℕ) → SFits w32 y → n ≡ raised (to_z w32 (of_z w32 y)) → lowered n ≡ y
bound_back y n f e = ap lowered (e ∙ ap raised (to_z-of_z w32 y f)) ∙ lowered_raised y f.sfits

module _ {profile : Profile} {job : ℕ → Job} {t n : ℕ} (p : Plannable profile job t n) where
  abbrev g : Planning
  g = planning_in profile job t n

  rows_length : length g.left ≡ n
  rows_length = length_count 1 n

  -- The list holds the plans.
  module _ (f : Front) (h : HoldsPlans g.plans n f) where
    pub front_sized : Sized f
    front_sized = plans_sized g.plans n f p.few h

    front_held : held f ≡ g.plans
    front_held = plans_held g.plans n f h (plan_lowers p)

    pub list_done : (b after : List ℕ) → 2 * n ≤ length b → after ≡ written (plan_words (held f)) b →
        gives (Ok f.count) after ≡ list_outcome g b
    list_done b after wide e =
        (λ x. gives (Ok (h.counted x)) ((e ∙ ap (λ (ps : List Pair). written (plan_words ps) b) front_held) x)) ∙
        sym (list_is g b (omega (arith, rows_length)))

    -- The order of a listed plan.
    pub plan_none : (k : ℕ) → k ≡ 0 → (b : List ℕ) → gives (Err (refusal_at 11 f.count)) b ≡ plan_outcome g k b
    plan_none k z b =
        ap (λ (m : ℕ). gives (Err (refusal_at 11 m)) b) h.counted ∙
        sym (plan_unlisted g k b (ap (λ (k : ℕ). nth g.plans k) z ∙ nth_zero g.plans))

    pub plan_past : (k : ℕ) → f.count < k → (b : List ℕ) → gives (Err (refusal_at 11 f.count)) b ≡ plan_outcome g k b
    plan_past k l b =
        ap (λ (m : ℕ). gives (Err (refusal_at 11 m)) b) h.counted ∙
        sym (plan_unlisted g k b (nth_out g.plans k (omega (arith, h.counted))))

    pub plan_done : (k : ℕ) → 1 ≤ k → k ≤ f.count → (b : List ℕ) (o : Outcome OrderAnswer) →
        o ≡ order_outcome g (lowered (get_or f.lates (k - 1) 0)) b →
        o ≡ plan_outcome g k b
    plan_done k l m b o e =
        let q : Pair = pair_at (get_or f.ends (k - 1) 0) (get_or f.lates (k - 1) 0) in
        let there = nth_in g.plans k q l (omega (arith, h.counted)) in
        let it = ap (λ (ps : List Pair). get_or ps (k - 1) q) (sym front_held) ∙ held_at f front_sized (k - 1) q (omega arith) in
        e ∙ sym (plan_is g k q b (there ∙ ap some it))

    -- The verdict.
    pub verdict_done : (posting : List ℕ) → posting_tests n posting ≡ Ok tt → (desk : Desk) → Followed job t posting desk →
        (v : Verdict) → v ≡
        judged_of (pair_at desk.minute desk.worst) (first_beating 1 (held f) (pair_at desk.minute desk.worst)) →
        Ok v ≡ verdict_outcome g posting
    verdict_done posting passed desk d v r =
        let some_row : 1 ≤ length posting = omega (arith, posting_length p posting passed, p.low) in
        let late = ap lowered (d.late some_row) ∙ order_lowers p posting (posting_order p posting passed) in
        let pair : pair_at desk.minute desk.worst ≡ pair_of job t posting = λ x. record { end = d.end x; late = late x } in
        ap Ok r ∙ ((λ x. Ok (judged_of (pair x) (first_beating 1 (front_held x) (pair x)))) ∙
        sym (verdict_is g posting (subst (λ (m : ℕ). posting_tests m posting ≡ Ok tt) (sym rows_length) passed)))

  pub list_short : (b : List ℕ) → length b < 2 * n → gives (Err (refusal_at 9 0)) b ≡ list_outcome g b
  list_short b h = sym (list_narrow g b (omega (arith, rows_length)))

  pub verdict_stray : (posting : List ℕ) (refusal : Refusal) → posting_tests n posting ≡ Err refusal → Err refusal ≡ verdict_outcome g posting
  verdict_stray posting refusal e =
      sym (verdict_no g posting refusal (subst (λ (k : ℕ). posting_tests k posting ≡ Err refusal) (sym rows_length) e))

  pub order_short : (y : ℤ) (b : List ℕ) → length b < n → gives (Err (refusal_at 9 0)) b ≡ order_outcome g y b
  order_short y b h = sym (order_narrow g y b (omega (arith, rows_length)))

  -- The order that is written is the one for the bound.
  module _ (bound : ℕ) (b : List ℕ) (wide : n ≤ length b) (answer : Planned) (after : List ℕ)
      (r : OrderGiven job t (g.orders (lowered bound)) bound b answer after) where
    abbrev y : ℤ
    y = lowered bound

    unkept_by : (o : Option (List ℕ)) → g.orders y ≡ o → planned_of job t o ≡ None →
        gives (Err (refusal_at 12 0)) (written_of o b) ≡ order_outcome g y b
    unfolding planned_of written_of
    unkept_by none f u = sym (order_none g y b (omega (arith, rows_length)) f)
    unkept_by (some order) f u = never (cc)

    pub order_unkept : answer ≡ None → gives (Err (refusal_at 12 0)) after ≡ order_outcome g y b
    order_unkept u = ap (λ (w : List ℕ). gives (Err (refusal_at 12 0)) w) r.buffer ∙
        unkept_by (g.orders y) refl (sym r.answered ∙ u)

    kept_by : (o : Option (List ℕ)) → g.orders y ≡ o → (desk : Desk) → planned_of job t o ≡ Some desk →
        gives (Ok (record { end = desk.minute; late = lowered desk.worst })) (written_of o b) ≡ order_outcome g y b
    unfolding planned_of written_of written
    kept_by none f desk k = never (cc)
    kept_by (some order) f desk k =
        let d : ◌≡◌ {A = Desk} (record { minute = end_of job t order; worst = raised (pair_of job t order).late }) desk = cc in
        let o = ((sound_in p).promise.best y order f).0 in
        let z : lowered desk.worst ≡ (pair_of job t order).late = ap (λ (k : Desk). lowered k.worst) (sym d) ∙ order_lowers p order o in
        (λ x. gives (Ok (record { end = (sym d x).minute; late = z x })) (order ++ drop (length order) b)) ∙
        sym (order_some g y b (omega (arith, rows_length)) order f)

    pub order_kept : (desk : Desk) → answer ≡ Some desk →
        gives (Ok (record { end = desk.minute; late = lowered desk.worst })) after ≡ order_outcome g y b
    order_kept desk k = ap (λ (w : List ℕ). gives (Ok (record { end = desk.minute; late = lowered desk.worst })) w) r.buffer ∙
        kept_by (g.orders y) refl desk (sym r.answered ∙ k)

-- A number from 1 on is never 0: so 0 says that there is none.
beating_from : (k : ℕ) (ps : List Pair) (q : Pair) → 1 ≤ k → (n : ℕ) → first_beating k ps q ≡ some n → 1 ≤ n
unfolding first_beating
beating_from k [] q h n e = never (cc)
beating_from k (p ∷ ps) q h n e = go (beats p q) e (beating_from (suc k) ps q (omega arith) n)
  where
    go : (b : Bool) → cond b (some k) (first_beating (suc k) ps q) ≡ some n → (first_beating (suc k) ps q ≡ some n → 1 ≤ n) → 1 ≤ n
    go true e f = let g : k ≡ n = cc in omega arith
    go false e f = f e

module _ (ps : List Pair) (q : Pair) (late : ℤ) (k : ℕ) (y : late ≡ q.late) (e : k ≡ or_zero (first_beating 1 ps q)) where
  pub judge_none : k ≡ 0 → verdict.Unbeaten q.end late ≡ judged_of q (first_beating 1 ps q)
  unfolding judged_of
  judge_none z = go (first_beating 1 ps q) refl
    where
      go : (o : Option ℕ) → first_beating 1 ps q ≡ o → verdict.Unbeaten q.end late ≡ judged_of q o
      go none f = ap (verdict.Unbeaten q.end) y
      go (some n) f =
          let l = beating_from 1 ps q (omega arith) n f in
          let m : k ≡ n = e ∙ ap or_zero f in
          let x : ⊥ = omega arith in
          absurd x

  pub judge_some : (k ≡ 0 → ⊥) → verdict.Beaten q.end late k ≡ judged_of q (first_beating 1 ps q)
  unfolding judged_of
  judge_some z = go (first_beating 1 ps q) refl
    where
      go : (o : Option ℕ) → first_beating 1 ps q ≡ o → verdict.Beaten q.end late k ≡ judged_of q o
      go none f = absurd (z (e ∙ ap or_zero f))
      go (some n) f = λ x. verdict.Beaten q.end (y x) ((e ∙ ap or_zero f) x)
