-- Columns in the order of rank: the search over them answers for the rows themselves.
-- Assumes nothing.
use Prim.Native.Nat.{ℕ, ◌≤◌, ◌<◌}
use native.Mathlib.Omega.{arith}
use mathlib.Core.Path.{◌≡◌, sym, ap, ◌∙◌}
use mathlib.Core.List.{List, ◌++◌, map, Memᴰ}
use mathlib.Core.Option
use mathlib.Core.Option.{Option, none, some}
use lib.ListN.{length, take, drop, length-map}
use lib.Seq.{length-take-le}
use Rattle.std.specs.Prelude.{Some, None}
use Rattle.theory.specs.Jobs.{Job}
use Rattle.schedule.specs.Limits.{EndsInTime, latest_due, latest_minute, longest_time, most_rows}
use Rattle.schedule.specs.declared.Desk.{Desk}
use Rattle.schedule.specs.Rows.{count_from}
use Rattle.schedule.specs.Desk.{Pair, end_of, pair_of}
use Rattle.schedule.specs.Plans.{plans}
use Rattle.schedule.specs.Cover.{Agreeing}
use Rattle.schedule.specs.Offset.{raised, lowered, desk_at}
use Rattle.schedule.specs.Columns.{at, columns, Limits}
use Rattle.schedule.proofs.Sorted.{place_mem}
use Rattle.schedule.proofs.Matches.{match_all}
use Rattle.schedule.proofs.RankPicks.{Renumbers}
use Rattle.schedule.proofs.Renumbered.{by_rank, in_rank, renumbered, order_rows, pair_renumbered, agreeing, same_plans}
use Rattle.ranks.specs.Tables.{Tabled}
use Rattle.ranks.proofs.Ranking.{ranked_jobs}
use Rattle.picks.specs.declared.Standing.{Standing}
use Rattle.picks.specs.Standing.{Tables}
use Rattle.listing.specs.declared.Front.{Front}
use Rattle.listing.specs.PlanFor.{planned_of}
use Rattle.search.specs.Searched.{order_at_raised, Searched}
use Rattle.arrival.specs.Given.{written_of, OrderGiven}
use Rattle.listing.specs.Fronts.{HoldsPlans}
use Rattle.search.proofs.Signs.{through_late, followed_end, followed_raised}
use Rattle.listing.proofs.Lists.{fits}

module _ {n : ℕ} {release length₀ due rows release' length' due' by : List ℕ}
    (t : Tabled n release length₀ due rows release' length' due' by) (limits : Limits (columns release length₀ due)) where
  abbrev job : ℕ → Job
  job = columns release length₀ due

  abbrev job' : ℕ → Job
  job' = columns release' length' due'

  same : (k : ℕ) → 1 ≤ k → k ≤ n → job' k ≡ job (at rows k)
  same = ranked_jobs t.releases_ranked t.lengths_ranked t.dues_ranked

  pub new : Renumbers n job job' (at rows)
  new = by_rank n job job' (at rows) t.by_rank same

  pub limits_ranked : Limits job'
  limits_ranked = record {
    releases = t.releases_ranked.within latest_minute limits.releases;
    lengths = t.lengths_ranked.within longest_time limits.lengths;
    dues = t.dues_ranked.within latest_due limits.dues;
  }

  pub tables : n ≤ most_rows → Tables n job' (at by)
  tables few = record { few = few; in_rank = in_rank n job job' (at rows) t.by_rank same; by_release = t.by_release length' due' }

  pub agreeing_ranked : Agreeing job (count_from 1 n) → Agreeing job' (count_from 1 n)
  agreeing_ranked = agreeing new (match_all t.by_rank)

  -- The order for a bound.
  module _ (low : 1 ≤ n) (few : n ≤ most_rows) (free bound : ℕ) (out : List ℕ) (s : Standing) (order : List ℕ)
      (g : Searched job' n free bound s order) where
    order_is : (x : Option (List ℕ)) → order_at_raised job' n free bound ≡ x → order_at_raised job n free bound ≡ Option.map (map (at rows)) x
    order_is x e = renumbered new (match_all t.by_rank) free (lowered bound) ∙ ap (Option.map (map (at rows))) e

    pub ordered_over : bound < s.desk.worst → OrderGiven job free (order_at_raised job n free bound) bound out None out
    unfolding planned_of written_of
    ordered_over h =
        let e = order_is none (g.over h) in
        record { answered = ap (planned_of job free) (sym e); buffer = ap (λ (x : Option (List ℕ)). written_of x out) (sym e); bounded = tt }

    module _ (h : s.desk.worst ≤ bound) where
      abbrev ranks : List ℕ
      ranks = take n order

      ranks_long : length ranks ≡ n
      ranks_long = length-take-le n order (omega (arith, g.places))

      ranks_within : (k : ℕ) → Memᴰ k ranks → (1 ≤ k) × (k ≤ n)
      ranks_within = order_rows new (match_all t.by_rank) free (lowered bound) ranks (g.kept h).0

      pub ranks_high : (i : ℕ) → i < n → at order i ≤ most_rows
      ranks_high i l = omega (arith, ranks_within (at order i) (place_mem n order i l (omega (arith, g.places))))

      pub ordered_kept : (after : List ℕ) → after ≡ map (at rows) ranks ++ drop n out →
          OrderGiven job free (order_at_raised job n free bound) bound out (Some s.desk) after
      unfolding planned_of written_of
      ordered_kept after w =
          let e = order_is (some ranks) (g.kept h).0 in
          let p : pair_of job free (map (at rows) ranks) ≡ pair_of job' free ranks = pair_renumbered new
          (match_all t.by_rank) free ranks ranks_within in
          let d = (g.kept h).1 in
          let some_row : 1 ≤ length ranks = omega (arith, ranks_long) in
          let m : s.desk.minute ≡ end_of job free (map (at rows) ranks) =
          ap (λ (x : Desk). x.minute) d ∙ (followed_end job' limits_ranked free ranks ∙ ap (λ (x : Pair). x.end) (sym p)) in
          let l : s.desk.worst ≡ raised (pair_of job free (map (at rows) ranks)).late =
          ap (λ (x : Desk). x.worst) d ∙
          (followed_raised job' limits_ranked free ranks some_row ∙ ap (λ (x : Pair). raised x.late) (sym p)) in
          record {
            answered = (λ i. Some (record { minute = m i; worst = l i })) ∙ ap (planned_of job free) (sym e);
            buffer = w ∙ (ap (λ (k : ℕ). map (at rows) ranks ++ drop k out) (sym (length-map ranks (at rows) ∙ ranks_long)) ∙
                ap (λ (x : Option (List ℕ)). written_of x out) (sym e));
            bounded = (
              omega (arith, ap (λ (x : Desk). x.worst) d, through_late job' limits_ranked (desk_at free) ranks some_row),
              h,
              (g.kept h).2,
            );
          }

  -- The list of plans.
  pub listed_ranked : 1 ≤ n → n ≤ most_rows → (free : ℕ) → EndsInTime free n → Agreeing job (count_from 1 n) → (r : Front) →
      HoldsPlans (plans job' free (count_from 1 n)) n r → HoldsPlans (plans job free (count_from 1 n)) n r
  listed_ranked low few free early agrees r g =
      let e : plans job' free (count_from 1 n) ≡ plans job free (count_from 1 n) =
      sym (same_plans new (match_all t.by_rank) free agrees low (fits job n free limits low few early agrees)
      (fits job' n free limits_ranked low few early (agreeing_ranked agrees))) in
      record {
        counted = g.counted ∙ ap length e;
        few = g.few;
        ends = g.ends ∙ ap (map (λ (p : Pair). p.end)) e;
        lates = g.lates ∙ ap (map (λ (p : Pair). raised p.late)) e;
        end_places = g.end_places;
        late_places = g.late_places;
      }
