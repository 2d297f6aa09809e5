-- The search from block to block: how it comes past the first run and goes on with a block.
-- Assumes nothing.
use Prim.Native.Nat.{ℕ, ◌≤◌, ◌<◌}
use native.Mathlib.Omega.{arith}
use mathlib.Core.Bool.{Bool, true, false, cond}
use mathlib.Core.Path.{◌≡◌, refl, sym, ap, ◌∙◌, subst}
use mathlib.Core.List.{List, [], ◌∷◌, ◌++◌}
use mathlib.Core.Logic.{inl, inr}
use mathlib.Core.Option.{none}
use lib.ListN.{length, take}
use Rattle.theory.specs.Jobs.{Job}
use Rattle.schedule.specs.declared.Desk.{Desk}
use Rattle.schedule.specs.Rows.{count_from, without_all}
use Rattle.schedule.specs.Picks.{decided, run, block_one, block_two}
use Rattle.schedule.specs.Columns.{Limits}
use Rattle.schedule.specs.Offset.{desk_at}
use Rattle.schedule.proofs.Tests.{false_is_true}
use Rattle.picks.specs.declared.Standing.{Standing}
use Rattle.picks.specs.Standing.{Sits}
use Rattle.search.specs.declared.Block.{Block}
use Rattle.search.specs.Taking.{desk_through, Stuck, After, Ran, Stepped}
use Rattle.search.specs.Searched.{order_at_raised}
use Rattle.search.specs.Ways.{Way}
use Rattle.search.proofs.Ways.{opening_over, way_first, way_one, way_two, way_none}

-- Where the desk is not decided, rows are left.
pub torn_more : (n : ℕ) (job : ℕ → Job) (by : ℕ → ℕ) (rest : List ℕ) (s : Standing) → Sits n job by rest s →
    decided job s.desk.minute rest ≡ false → s.count ≡ n → ⊥
unfolding decided
torn_more n job by [] s g e c = false_is_true (sym e)
torn_more n job by (i ∷ is) s g e c = omega (arith, g.count)

-- Where a run ends and rows are left, the desk is not decided.
pub stuck_torn : (n : ℕ) (job : ℕ → Job) (by : ℕ → ℕ) (rest : List ℕ) (s : Standing) → Sits n job by rest s →
    Stuck n job by s.desk.minute rest → (s.count ≡ n → ⊥) →
    decided job s.desk.minute rest ≡ false
stuck_torn n job by rest s g (inl e) z = absurd (z (omega (arith, g.count, ap length e)))
stuck_torn n job by rest s g (inr e) z = e

module _ (n : ℕ) (job : ℕ → Job) (by : ℕ → ℕ) (limits : Limits job) (free : ℕ) where
  -- The rows o are taken next, the first run or a block: where the bound is kept with them, they are on the way; otherwise no order
  -- keeps the bound.
  pub record Went (bound : ℕ) (done rest : List ℕ) (s : Standing) (order o : List ℕ) (r : Standing) (after : List ℕ) : Type 0 where
    pub kept : r.desk.worst ≤ bound → Way n job by free bound (done ++ o) (without_all o rest) r × After n job by rest s o r ×
        (take r.count after ≡ take s.count order ++ o)
    pub over : bound < r.desk.worst → order_at_raised job n free bound ≡ none

  -- The first run, from a desk with nothing done yet.
  module _ (bound : ℕ) (s : Standing) (starts : s.desk ≡ desk_at free) (none_done : s.count ≡ 0) (order : List ℕ) (r : Standing)
      (after : List ℕ)
      (q : Ran n job by bound (count_from 1 n) s (run job s.desk.minute (count_from 1 n)) order r after) where
    abbrev opening : List ℕ
    opening = run job free (count_from 1 n)

    worst_after : (desk_through job s.desk opening).worst ≡ (desk_through job (desk_at free) opening).worst
    worst_after = ap (λ (d : Desk). (desk_through job d opening).worst) starts

    pub went_first : Went bound [] (count_from 1 n) s order opening r after
    went_first =
        let p = subst (λ (o : List ℕ). Ran n job by bound (count_from 1 n) s o order r after)
        (ap (λ (d : Desk). run job d.minute (count_from 1 n)) starts) q in
        record {
          kept = λ k. (way_first job limits n by free bound s r starts none_done (p.kept k).0, (p.kept k).0, (p.kept k).1);
          over = λ k. opening_over job limits n by free bound (omega (arith, p.over k, worst_after));
        }

  module _ (bound : ℕ) (done rest : List ℕ) (s : Standing) (w : Way n job by free bound done rest s)
      (torn : decided job s.desk.minute rest ≡ false) (low : s.desk.worst ≤ bound) where
    abbrev first : List ℕ
    first = block_one job s.desk.minute rest

    abbrev second : List ℕ
    second = block_two job s.desk.minute rest

    more : s.count ≡ n → ⊥
    more = torn_more n job by rest s w.sits torn

    went_one : (order : List ℕ) (r : Standing) (after : List ℕ) → r.desk.worst ≤ bound →
        Ran n job by bound rest s first order r after → Went bound done rest s order first r after
    went_one order r after h q = record {
      kept = λ l. (way_one job limits n by free bound done rest s w more r (q.kept l).0, (q.kept l).0, (q.kept l).1);
      over = λ l. let z : ⊥ = omega arith in absurd z;
    }

    pub went_two : bound < (desk_through job s.desk first).worst → (order : List ℕ) (r : Standing) (after : List ℕ) →
        Ran n job by bound rest s second order r after → Went bound done rest s order second r after
    went_two over order r after q = record {
      kept = λ l. (way_two job limits n by free bound done rest s w more over r (q.kept l).0, (q.kept l).0, (q.kept l).1);
      over = λ l. way_none job limits n by free bound done rest s w more over low (q.over l);
    }

    -- The next block, whichever it is.
    pub went_next : (order : List ℕ) (b : Block) (after : List ℕ) → Stepped n job by bound rest s order b after →
        Went bound done rest s order (cond b.second second first) b.after after ×
        (b.second ≡ true → bound < (desk_through job s.desk first).worst)
    went_next order b after q = go b.second refl
      where
        go : (c : Bool) → b.second ≡ c → Went bound done rest s order (cond b.second second first) b.after after ×
            (b.second ≡ true → bound < (desk_through job s.desk first).worst)
        go false e = (
          subst (λ (x : Bool). Went bound done rest s order (cond x second first) b.after after) (sym e)
              (went_one order b.after after (q.one e).0 (q.one e).1),
          λ x. false_is_true (sym e ∙ x),
        )
        go true e = (
          subst (λ (x : Bool). Went bound done rest s order (cond x second first) b.after after) (sym e)
              (went_two (q.two e).0 order b.after after (q.two e).1),
          λ x. (q.two e).0,
        )
