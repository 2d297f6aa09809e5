-- What is planned of rows that can be planned, as those in columns, and that jobs which are the same on the rows give the same outcomes.
-- Assumes nothing.
use Prim.Native.Nat.{ℕ, zero, suc, ◌*◌, ◌≤◌, ◌<◌}
use native.Mathlib.Omega.{arith}
use native.Mathlib.Decide.{dec_le}
use mathlib.Core.Path.{◌≡◌, refl, sym, ap, ◌∙◌, subst}
use mathlib.Core.List.{List, [], ◌∷◌, Memᴰ}
use mathlib.Core.Option.{Option, none, some}
use lib.ListN.{length, get_or}
use lib.IntN.{ℤ}
use Rattle.std.specs.Prelude.{Ok, Err}
use Rattle.theory.specs.Jobs.{Job}
use Rattle.schedule.specs.Limits.{most_rows, latest_end, longest_time, latest_due}
use Rattle.schedule.specs.declared.Profile.{Profile}
use Rattle.schedule.specs.Rows.{count_from}
use Rattle.schedule.specs.Desk.{Pair, OrderOf, pair_of}
use Rattle.schedule.specs.Plans.{first_beating}
use Rattle.schedule.specs.Offset.{raised, lowered}
use Rattle.schedule.proofs.Orders.{perm_count, perm_all}
use Rattle.schedule.proofs.Numbers.{length_count, count_range}
use Rattle.schedule.proofs.Ranges.{fits_32}
use Rattle.schedule.proofs.Profiles.{profiles_promised}
use Rattle.schedule.proofs.SameJobs.{same_pair, same_list, same_order}
use Rattle.refusals.specs.Tests.{Tested, refusal_at}
use Rattle.postings.specs.Posting.{posting_tests}
use Rattle.search.proofs.Signs.{late_lowers}
use Rattle.results.specs.Results.{written, plan_words}
use Rattle.outcomes.specs.Outcomes.{judged_of, list_outcome, order_outcome, plan_outcome, verdict_outcome}
use Rattle.outcomes.specs.Planning.{gives, nth, Planning, planning_in}
use Rattle.outcomes.specs.Plannable.{Plannable}
use Rattle.outcomes.proofs.OutcomeLaws.{list_narrow, list_is, plan_is, plan_unlisted, verdict_no, verdict_is}
use Rattle.outcomes.proofs.OutcomeLaws.{order_narrow, order_some, order_none}
use Rattle.outcomes.proofs.Sound.{Sound, posted}

module _ {profile : Profile} {job : ℕ → Job} {t n : ℕ} (p : Plannable profile job t n) where
  abbrev rows : List ℕ
  rows = count_from 1 n

  some_row : 0 < length rows
  some_row = omega (arith, length_count 1 n, p.low)

  pub sound_in : Sound (planning_in profile job t n)
  sound_in =
      let k = p.limits in
      let r = profiles_promised profile job t rows p.rule some_row in
      record {
        fits = fits_32 latest_end 0 longest_time latest_due most_rows (omega arith) (omega arith)
            (record {
              early = omega (arith, p.early);
              few = omega (arith, length_count 1 n, p.few);
              ranges = λ i m. (omega (arith, k.releases i), omega arith, k.lengths i, k.dues i);
            })
            some_row;
        front = r.0;
        promise = r.1;
      }

  -- An order of the rows has as many, and its lateness comes back from what it is raised to.
  pub order_length : {order : List ℕ} → OrderOf rows order → length order ≡ n
  order_length o = (perm_count o).0 ∙ length_count 1 n

  pub order_lowers : (order : List ℕ) → OrderOf rows order → lowered (raised (pair_of job t order).late) ≡ (pair_of job t order).late
  order_lowers order o = late_lowers job p.limits t order (omega (arith, order_length o, p.low))

  pub plan_lowers : (q : Pair) → Memᴰ q (planning_in profile job t n).plans → lowered (raised q.late) ≡ q.late
  plan_lowers q m =
      let s = sound_in in
      let u = ((s.promise.belongs q).0 (subst (Memᴰ q) s.front m)).0 in
      subst (λ (q : Pair). lowered (raised q.late) ≡ q.late) u.1.1 (order_lowers u.0 u.1.0)

  pub few_plans : length (planning_in profile job t n).plans ≤ n
  few_plans = let s = sound_in in rw s.front (omega (arith, s.promise.few.1, length_count 1 n))

  -- The entries of a posting that passed its tests are rows.
  module _ (posting : List ℕ) (passed : posting_tests n posting ≡ Ok tt) where
    pub posting_order : OrderOf rows posting
    posting_order = (posted n posting).0 passed

    pub posting_length : length posting ≡ n
    posting_length = order_length posting_order

    pub posting_rows : (k : ℕ) → get_or posting k 0 ≤ most_rows
    posting_rows k = small posting k (perm_all (λ i. i ≤ most_rows) posting_order (λ j m. omega (arith, (count_range 1 n m).1, p.few)))
      where
        small : (l : List ℕ) (k : ℕ) → ((i : ℕ) → Memᴰ i l → i ≤ most_rows) → get_or l k 0 ≤ most_rows
        small [] k h = omega arith
        small (x ∷ l) zero h = h x (Memᴰ.head refl)
        small (x ∷ l) (suc k) h = small l k (λ i m. h i (Memᴰ.tail m))

-- Jobs that are the same on the rows: the calls on them give the same.
module _ {profile : Profile} {job job' : ℕ → Job} {t n : ℕ} (p : Plannable profile job t n)
    (same : (i : ℕ) → Memᴰ i (count_from 1 n) → job i ≡ job' i) where
  abbrev g : Planning
  g = planning_in profile job t n

  abbrev g' : Planning
  g' = planning_in profile job' t n

  plans_same : g.plans ≡ g'.plans
  plans_same = same_list job job' n same profile t

  order_same : (order : List ℕ) → OrderOf (count_from 1 n) order → pair_of job t order ≡ pair_of job' t order
  order_same order o = same_pair job job' t order (perm_all (λ i. job i ≡ job' i) o same)

  pub same_listed : (b : List ℕ) → list_outcome g b ≡ list_outcome g' b
  same_listed b = step (dec_le (2 * length g.left) (length b))
    where
      step : Dec (2 * length g.left ≤ length b) → list_outcome g b ≡ list_outcome g' b
      step (yes h) =
          list_is g b h ∙ ap (λ (ps : List Pair). gives (Ok (length ps)) (written (plan_words ps) b)) plans_same ∙
          sym (list_is g' b h)
      step (no h) = list_narrow g b (omega arith) ∙ sym (list_narrow g' b (omega arith))

  pub same_ordered : (y : ℤ) (b : List ℕ) → order_outcome g y b ≡ order_outcome g' y b
  same_ordered y b = step (dec_le (length g.left) (length b))
    where
      orders : (o : Option (List ℕ)) → g.orders y ≡ o → g'.orders y ≡ o
      orders o e = sym (same_order job job' n same profile t y) ∙ e

      found : length g.left ≤ length b → (o : Option (List ℕ)) → g.orders y ≡ o → order_outcome g y b ≡ order_outcome g' y b
      found h none e = order_none g y b h e ∙ sym (order_none g' y b h (orders none e))
      found h (some order) e =
          let o = ((sound_in p).promise.best y order e).0 in
          order_some g y b h order e ∙
          ap (λ (q : Pair). gives (Ok (record { end = q.end; late = q.late })) (written order b)) (order_same order o) ∙
          sym (order_some g' y b h order (orders (some order) e))

      step : Dec (length g.left ≤ length b) → order_outcome g y b ≡ order_outcome g' y b
      step (yes h) = found h (g.orders y) refl
      step (no h) = order_narrow g y b (omega arith) ∙ sym (order_narrow g' y b (omega arith))

  pub same_planned : (k : ℕ) (b : List ℕ) → plan_outcome g k b ≡ plan_outcome g' k b
  same_planned k b = step (nth g.plans k) refl
    where
      there : (o : Option Pair) → nth g.plans k ≡ o → nth g'.plans k ≡ o
      there o e = sym (ap (λ (ps : List Pair). nth ps k) plans_same) ∙ e

      step : (o : Option Pair) → nth g.plans k ≡ o → plan_outcome g k b ≡ plan_outcome g' k b
      step none e =
          plan_unlisted g k b e ∙ ap (λ (ps : List Pair). gives (Err (refusal_at 11 (length ps))) b) plans_same ∙
          sym (plan_unlisted g' k b (there none e))
      step (some q) e = plan_is g k q b e ∙ same_ordered q.late b ∙ sym (plan_is g' k q b (there (some q) e))

  pub same_judged : (posting : List ℕ) → verdict_outcome g posting ≡ verdict_outcome g' posting
  same_judged posting = step (posting_tests (length g.left) posting) refl
    where
      step : (r : Tested) → posting_tests (length g.left) posting ≡ r → verdict_outcome g posting ≡ verdict_outcome g' posting
      step (Ok _) e =
          let o = posting_order p posting (subst (λ (m : ℕ). posting_tests m posting ≡ Ok tt) (length_count 1 n) e) in
          let q = order_same posting o in
          verdict_is g posting e ∙ (λ x. Ok (judged_of (q x) (first_beating 1 (plans_same x) (q x)))) ∙ sym (verdict_is g' posting e)
      step (Err refusal) e = verdict_no g posting refusal e ∙ sym (verdict_no g' posting refusal e)
