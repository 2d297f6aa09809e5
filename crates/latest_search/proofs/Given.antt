-- From what is found of the rows by rank to the latest free minute and order of the rows themselves. Assumes nothing.
use Prim.Native.Nat.{ℕ, suc, ◌≤◌, ◌<◌}
use native.Mathlib.Omega.{arith}
use mathlib.Core.Bool.{false}
use mathlib.Core.Path.{◌≡◌, refl, sym, ap, ◌∙◌}
use mathlib.Core.List.{List, ◌++◌, map}
use mathlib.Core.Option
use mathlib.Core.Option.{Option, none, some}
use lib.ListN.{length, take, drop}
use lib.IntN.{pos}
use lib.Signed.{le_z}
use Rattle.std.specs.Prelude.{Some, None}
use Rattle.std.specs.Prelude.{Option as Found}
use Rattle.theory.specs.Jobs.{Job}
use Rattle.schedule.specs.Limits.{most_rows}
use Rattle.schedule.specs.declared.Desk.{Desk}
use Rattle.schedule.specs.Rows.{count_from}
use Rattle.schedule.specs.Cover.{Agreeing}
use Rattle.schedule.specs.Offset.{lowered}
use Rattle.schedule.specs.Columns.{at, columns, Limits}
use Rattle.schedule.proofs.Tests.{false_is_true}
use Rattle.schedule.proofs.Numbers.{length_count}
use Rattle.schedule.proofs.Matches.{match_all}
use Rattle.schedule.proofs.Renumbered.{end_renumbered, renumbered, order_rows}
use Rattle.ranks.specs.Tables.{Tabled}
use Rattle.search.specs.Searched.{order_at_raised}
use Rattle.listing.specs.PlanFor.{Planned, planned_of}
use Rattle.arrival.specs.Given.{written_of, OrderGiven}
use Rattle.plans.proofs.Ranked.{new, ranks_high, ordered_kept}
use Rattle.how_late.specs.Latest.{latest_free, latest_order, OrderFrom}
use Rattle.how_late.specs.Laws.{ends_by, LatestHolds, LatestLaws}
use Rattle.how_late.proofs.Latest.{how_late}
use Rattle.latest_search.specs.declared.Latest.{Latest}
use Rattle.latest_search.specs.declared.Halving.{Halving}
use Rattle.latest_search.specs.Found.{in_time_at, Reached, HalvedAt, latest_of, order_of, LatestGiven}

-- The desk that is answered for a bound, as an answer from the minute t.
abbrev from : ℕ → Planned → Found Latest
from t (Some desk) = Some (record { minute = t; end = desk.minute; late = desk.worst })
from t None = None

module _ {n : ℕ} {release minutes due rows releases lengths dues by : List ℕ}
    (t : Tabled n release minutes due rows releases lengths dues by) (limits : Limits (columns release minutes due))
    (end bound : ℕ) where
  abbrev job : ℕ → Job
  job = columns release minutes due

  abbrev ranked : ℕ → Job
  ranked = columns releases lengths dues

  -- A minute is in time for the rows exactly if it is for their ranks.
  in_time_ranked : (m : ℕ) → in_time_at job n end bound m ≡ in_time_at ranked n end bound m
  in_time_ranked m = step (order_at_raised ranked n m bound) refl
    where
      rows_of : (x : Option (List ℕ)) → order_at_raised ranked n m bound ≡ x → order_at_raised job n m bound ≡ Option.map (map (at rows)) x
      rows_of x e = renumbered (new t limits) (match_all t.by_rank) m (lowered bound) ∙ ap (Option.map (map (at rows))) e

      step : (x : Option (List ℕ)) → order_at_raised ranked n m bound ≡ x → in_time_at job n end bound m ≡ in_time_at ranked n end bound m
      step none e = ap (ends_by job (lowered end) m) (rows_of none e) ∙ sym (ap (ends_by ranked (lowered end) m) e)
      step (some o) e =
          ap (ends_by job (lowered end) m) (rows_of (some o) e) ∙
          (ap (λ (x : ℕ). le_z (pos x) (lowered end)) (end_renumbered (new t limits) (match_all t.by_rank) m o
          (order_rows (new t limits) (match_all t.by_rank) m (lowered bound) o e)) ∙
          sym (ap (ends_by ranked (lowered end) m) e))

  module _ (low : 1 ≤ n) (few : n ≤ most_rows) (agreeing : Agreeing job (count_from 1 n)) (out : List ℕ) where
    abbrev answer : Option OrderFrom
    answer = latest_order job (count_from 1 n) (lowered end) (lowered bound)

    holds : LatestHolds job (count_from 1 n) (lowered end) (lowered bound)
    holds = (how_late job (count_from 1 n) (lowered end) (lowered bound)).0

    laws : LatestLaws job (count_from 1 n) (lowered end) (lowered bound)
    laws = (how_late job (count_from 1 n) (lowered end) (lowered bound)).1 agreeing (omega (arith, length_count 1 n))

    pub given_never : in_time_at ranked n end bound 0 ≡ false → LatestGiven job answer out None out
    unfolding latest_of order_of written_of
    given_never f =
        let e : answer ≡ none = laws.no_order.1 (holds.unreachable.0 (laws.never (in_time_ranked 0 ∙ f))) in
        record { answered = ap (latest_of job) (sym e); buffer = ap (λ (o : Option OrderFrom). written_of (order_of o) out) (sym e) }

    module _ (r : Halving) (h : HalvedAt ranked n end bound r) where
      reached : Reached ranked n end bound r.minute r.desk r.order
      reached = h.reached

      -- What is answered of a desk after the order.
      abbrev stands : Desk → Found Latest
      stands d = Some (record { minute = r.minute; end = d.minute; late = d.worst })

      pub order_long : length r.order ≡ most_rows
      order_long = reached.searched.places

      pub order_high : (i : ℕ) → i < n → at r.order i ≤ most_rows
      order_high = ranks_high t limits low few r.minute bound out reached.standing r.order reached.searched reached.kept

      pub given_found : (after : List ℕ) → after ≡ map (at rows) (take n r.order) ++ drop n out →
          LatestGiven job answer out (stands r.desk) after
      unfolding latest_of order_of written_of planned_of
      given_found after w = step (order_at_raised job n r.minute bound) refl
        where
          given : OrderGiven job r.minute (order_at_raised job n r.minute bound) bound out
              (Some reached.standing.desk) after
          given = ordered_kept t limits low few r.minute bound out reached.standing r.order reached.searched reached.kept
              after w

          same_desk : stands r.desk ≡ stands reached.standing.desk
          same_desk = ap stands reached.after

          step : (x : Option (List ℕ)) → order_at_raised job n r.minute bound ≡ x →
              LatestGiven job answer out (stands r.desk) after
          step none e =
              false_is_true (sym (ap (ends_by job (lowered end) r.minute) e) ∙ (in_time_ranked r.minute ∙ reached.kept_in_time))
          step (some order) e =
              let latest : latest_free job (count_from 1 n) (lowered end) (lowered bound) ≡ some r.minute =
              laws.next r.minute h.within (in_time_ranked r.minute ∙ reached.kept_in_time)
              (λ l. in_time_ranked (suc r.minute) ∙ h.next l) in
              let s : OrderFrom = record { minute = r.minute; order = order } in
              let is_answer : answer ≡ some s = (laws.order_from s).1 ((holds.found r.minute).0 latest, e) in
              record {
                answered = same_desk ∙ (ap (from r.minute) (given.answered ∙ ap (planned_of job r.minute) e) ∙
                    ap (latest_of job) (sym is_answer));
                buffer = given.buffer ∙ (ap (λ (o : Option (List ℕ)). written_of o out) e ∙
                    ap (λ (o : Option OrderFrom). written_of (order_of o) out) (sym is_answer));
              }
