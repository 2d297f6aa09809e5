-- What the outcomes of what is planned are, case by case.
-- Assumes nothing.
use Prim.Native.Nat.{ℕ, ◌*◌, ◌≤◌, ◌<◌}
use mathlib.Core.Path.{◌≡◌}
use mathlib.Core.List.{List}
use mathlib.Core.Option.{none, some}
use lib.ListN.{length}
use lib.IntN.{ℤ}
use borrow.Author.Tests.{le-ltb, lt-ltb}
use Rattle.std.specs.Prelude.{Ok, Err}
use Rattle.schedule.specs.Desk.{Pair, pair_of}
use Rattle.schedule.specs.Plans.{first_beating}
use Rattle.refusals.specs.Refusals.{by_narrow, by_unlisted, by_unkept}
use Rattle.refusals.specs.Tests.{refusal_at}
use Rattle.postings.specs.Posting.{posting_tests}
use Rattle.results.specs.Results.{written, plan_words}
use Rattle.outcomes.specs.Outcomes.{judged_of, list_outcome, order_outcome, plan_outcome, verdict_outcome}
use Rattle.outcomes.specs.Planning.{gives, nth, Planning}
use Rattle.refusals.specs.declared.Refusal.{Refusal}

module _ (g : Planning) where
  pub list_narrow : (b : List ℕ) → length b < 2 * length g.left → list_outcome g b ≡ gives (Err (refusal_at by_narrow 0)) b
  unfolding list_outcome
  list_narrow b h = rw (lt-ltb (length b) (2 * length g.left) h, list_outcome)

  pub list_is : (b : List ℕ) → 2 * length g.left ≤ length b →
      list_outcome g b ≡ gives (Ok (length g.plans)) (written (plan_words g.plans) b)
  unfolding list_outcome
  list_is b h = rw (le-ltb (length b) (2 * length g.left) h, list_outcome)

  pub plan_is : (k : ℕ) (p : Pair) (b : List ℕ) → nth g.plans k ≡ some p → plan_outcome g k b ≡ order_outcome g p.late b
  unfolding plan_outcome
  plan_is k p b e = rw (e, plan_outcome)

  pub plan_unlisted : (k : ℕ) (b : List ℕ) → nth g.plans k ≡ none →
      plan_outcome g k b ≡ gives (Err (refusal_at by_unlisted (length g.plans))) b
  unfolding plan_outcome
  plan_unlisted k b e = rw (e, plan_outcome)

  pub verdict_no : (posting : List ℕ) (refusal : Refusal) → posting_tests (length g.left) posting ≡ Err refusal →
      verdict_outcome g posting ≡ Err refusal
  unfolding verdict_outcome
  verdict_no posting refusal e = rw (e, verdict_outcome)

  pub verdict_is : (posting : List ℕ) → posting_tests (length g.left) posting ≡ Ok tt →
      verdict_outcome g posting ≡
      Ok (judged_of (pair_of g.job g.minute posting) (first_beating 1 g.plans (pair_of g.job g.minute posting)))
  unfolding verdict_outcome
  verdict_is posting e = rw (e, verdict_outcome)

  module _ (y : ℤ) (b : List ℕ) where
    pub order_narrow : length b < length g.left → order_outcome g y b ≡ gives (Err (refusal_at by_narrow 0)) b
    unfolding order_outcome
    order_narrow h = rw (lt-ltb (length b) (length g.left) h, order_outcome)

    module _ (h : length g.left ≤ length b) where
      pub order_some : (order : List ℕ) → g.orders y ≡ some order →
          order_outcome g y b ≡
          gives (Ok (record { end = (pair_of g.job g.minute order).end; late = (pair_of g.job g.minute order).late })) (written order b)
      unfolding order_outcome
      order_some order e = rw (le-ltb (length b) (length g.left) h, e, order_outcome)

      pub order_none : g.orders y ≡ none → order_outcome g y b ≡ gives (Err (refusal_at by_unkept 0)) b
      unfolding order_outcome
      order_none e = rw (le-ltb (length b) (length g.left) h, e, order_outcome)
