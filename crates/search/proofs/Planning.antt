-- The search for the order for a bound: what it keeps from block to block, and how it begins, goes on and ends.
-- Assumes nothing.
use Prim.Native.Nat.{ℕ, ◌≤◌, ◌<◌}
use native.Mathlib.Omega.{arith}
use mathlib.Core.Bool.{cond, false}
use mathlib.Core.Path.{◌≡◌, sym, ap, ◌∙◌, subst}
use mathlib.Core.List.{List, ◌++◌}
use mathlib.Core.Option.{none, some}
use lib.ListN.{length, take}
use Rattle.theory.specs.Jobs.{Job}
use Rattle.schedule.specs.Limits.{most_rows}
use Rattle.schedule.specs.Rows.{count_from, without_all}
use Rattle.schedule.specs.Picks.{decided, run, block_one, block_two}
use Rattle.schedule.specs.Columns.{Limits}
use Rattle.schedule.specs.Offset.{desk_at}
use Rattle.picks.specs.declared.Standing.{Standing}
use Rattle.search.specs.declared.Block.{Block}
use Rattle.search.specs.Taking.{desk_through, Stuck, Ran, Stepped}
use Rattle.search.specs.Searched.{order_at_raised, Searched}
use Rattle.search.specs.Ways.{Way}
use Rattle.search.proofs.Ways.{way_done}
use Rattle.search.proofs.Searches.{stuck_torn, went_first, went_next}

module _ (n : ℕ) (job : ℕ → Job) (by : ℕ → ℕ) (free bound : ℕ) where
  -- The rows done stand in the order.
  pub record Planned (order : List ℕ) (s : Standing) : Type 0 where
    pub rest : List ℕ
    pub way : Way n job by free bound (take s.count order) rest s
    pub stuck : Stuck n job by s.desk.minute rest

  -- What the loop keeps.
  pub record Planning (order : List ℕ) (s : Standing) : Type 0 where
    pub kept : s.desk.worst ≤ bound → Planned order s
    pub over : bound < s.desk.worst → order_at_raised job n free bound ≡ none
    pub places : length order ≡ most_rows

module _ (n : ℕ) (job : ℕ → Job) (by : ℕ → ℕ) (limits : Limits job) (free bound : ℕ) where
  pub planning_first : (s : Standing) (order : List ℕ) (r : Standing) (after : List ℕ) → s.desk ≡ desk_at free → s.count ≡ 0 →
      Ran n job by bound (count_from 1 n) s (run job s.desk.minute (count_from 1 n)) order r after → Planning n job by free bound after r
  planning_first s order r after e c q =
      let w = went_first n job by limits free bound s e c order r after q in
      let rest = without_all (run job free (count_from 1 n)) (count_from 1 n) in
      record {
        kept = λ k.
            let m = w.kept k in
            record {
              rest = rest;
              way = subst (λ (done : List ℕ). Way n job by free bound done rest r)
                  (sym (m.2 ∙ ap (λ (j : ℕ). take j order ++ run job free (count_from 1 n)) c)) m.0;
              stuck = m.1.stuck;
            };
        over = w.over;
        places = q.places;
      }

  module _ (order : List ℕ) (s : Standing) (g : Planning n job by free bound order s) where
    pub searched_over : bound < s.desk.worst → Searched job n free bound s order
    searched_over h = record { kept = λ k. let z : ⊥ = omega arith in absurd z; over = λ k. g.over h; places = g.places }

    module _ (low : s.desk.worst ≤ bound) where
      abbrev here : Planned n job by free bound order s
      here = g.kept low

      pub searched_kept : n ≤ most_rows → s.count ≡ n → Searched job n free bound s order
      searched_kept few e = record {
        kept = λ k. (
          way_done job limits n by free bound (take s.count order) here.rest s here.way e low ∙
              ap (λ (m : ℕ). some (take m order)) e,
          here.way.desk ∙ ap (λ (m : ℕ). desk_through job (desk_at free) (take m order)) e,
          omega (arith, here.way.sits.lates),
        );
        over = λ k. let z : ⊥ = omega arith in absurd z;
        places = g.places;
      }

      module _ (more : s.count ≡ n → ⊥) where
        pub planning_torn : decided job s.desk.minute here.rest ≡ false
        planning_torn = stuck_torn n job by here.rest s here.way.sits here.stuck more

        pub planning_next : (b : Block) (after : List ℕ) → Stepped n job by bound here.rest s order b after →
            Planning n job by free bound after b.after
        planning_next b after q =
            let o = cond b.second (block_two job s.desk.minute here.rest) (block_one job s.desk.minute here.rest) in
            let w = (went_next n job by limits free bound (take s.count order) here.rest s
            here.way planning_torn low order b after q).0 in
            record {
              kept = λ k.
                  let m = w.kept k in
                  record {
                    rest = without_all o here.rest;
                    way = subst (λ (done : List ℕ). Way n job by free bound done (without_all o here.rest) b.after) (sym m.2)
                        m.0;
                    stuck = m.1.stuck;
                  };
              over = w.over;
              places = q.places;
            }
