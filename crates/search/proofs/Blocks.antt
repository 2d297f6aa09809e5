-- The next block of a desk that is not decided: block one where the bound is kept with it, otherwise block two.
-- Assumes nothing.
use Prim.Native.Nat.{ℕ, ◌≤◌, ◌<◌}
use mathlib.Core.Bool.{true, false}
use mathlib.Core.Path.{◌≡◌, sym, ap, ◌∙◌, subst}
use mathlib.Core.List.{List, ◌++◌}
use lib.ListN.{take}
use Rattle.theory.specs.Jobs.{Job}
use Rattle.schedule.specs.Picks.{first_pick, second_pick, block, block_one, block_two}
use Rattle.schedule.proofs.Tests.{false_is_true}
use Rattle.picks.specs.declared.Standing.{Standing}
use Rattle.search.specs.Taking.{Ran, Stepped}

module _ (n : ℕ) (job : ℕ → Job) (by : ℕ → ℕ) (bound : ℕ) (rest : List ℕ) (s : Standing) where
  abbrev now : ℕ
  now = s.desk.minute

  one_ran : (i : ℕ) → i ≡ first_pick job now rest → (order : List ℕ) (r : Standing) (after : List ℕ) →
      Ran n job by bound rest s (block job i now rest) order r after → Ran n job by bound rest s (block_one job now rest) order r after
  unfolding block_one
  one_ran i e order r after q = subst (λ (k : ℕ). Ran n job by bound rest s (block job k now rest) order r after) e q

  pub two_ran : (j : ℕ) → j ≡ second_pick job now rest → (order : List ℕ) (r : Standing) (after : List ℕ) →
      Ran n job by bound rest s (block job j now rest) order r after → Ran n job by bound rest s (block_two job now rest) order r after
  unfolding block_two
  two_ran j e order r after q = subst (λ (k : ℕ). Ran n job by bound rest s (block job k now rest) order r after) e q

  -- A block after another that was given back: the order up to the desk is as it was.
  ran_again : (taken order₀ order : List ℕ) (r : Standing) (after : List ℕ) → take s.count order ≡ take s.count order₀ →
      Ran n job by bound rest s taken order r after → Ran n job by bound rest s taken order₀ r after
  ran_again taken order₀ order r after e q = record {
    kept = λ k. ((q.kept k).0, (q.kept k).1 ∙ ap (λ (l : List ℕ). l ++ taken) e);
    over = q.over;
    before = q.before ∙ e;
    counts = q.counts;
    places = q.places;
  }

  module _ (order : List ℕ) (i : ℕ) (first : i ≡ first_pick job now rest) (one : Standing) (between : List ℕ)
      (b : (s.count < one.count) × Ran n job by bound rest s (block job i now rest) order one between) where
    abbrev q : Ran n job by bound rest s (block job i now rest) order one between
    q = b.1

    pub stepped_one : one.desk.worst ≤ bound → Stepped n job by bound rest s order (record { second = false; after = one }) between
    stepped_one h = record {
      one = λ e. (h, one_ran i first order one between q);
      two = λ e. false_is_true e;
      counts = (b.0, q.counts.1);
      places = q.places;
    }

    pub stepped_two : bound < one.desk.worst → (j : ℕ) → j ≡ second_pick job now rest → (two : Standing) (after : List ℕ) →
        (s.count < two.count) × Ran n job by bound rest s (block job j now rest) between two after →
        Stepped n job by bound rest s order (record { second = true; after = two }) after
    stepped_two h j second two after t = record {
      one = λ e. false_is_true (sym e);
      two = λ e. (
        (one_ran i first order one between q).over h,
        ran_again (block_two job now rest) order between two after q.before (two_ran j second between two after t.1),
      );
      counts = (t.0, t.1.counts.1);
      places = t.1.places;
    }
