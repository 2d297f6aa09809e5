-- The search along the trail: how it comes past the first run, goes on with a block that the trail then holds, and ends.
-- Assumes nothing.
use Prim.Native.Nat.{ℕ, suc, ◌+◌, ◌≤◌, ◌<◌}
use native.Mathlib.Omega.{arith}
use native.Mathlib.Numerals.{add-one}
use mathlib.Core.Bool.{Bool, true, false, cond}
use mathlib.Core.Path.{◌≡◌, sym, ap, subst}
use mathlib.Core.List.{List, [], ◌++◌}
use lib.ListN.{length, set}
use lib.Seq.{get_or-set_same}
use Rattle.theory.specs.Jobs.{Job}
use Rattle.schedule.specs.declared.Desk.{Desk}
use Rattle.schedule.specs.Rows.{count_from, without_all}
use Rattle.schedule.specs.Picks.{decided, run, block_one, block_two}
use Rattle.schedule.specs.Columns.{at, Limits}
use Rattle.schedule.specs.Offset.{desk_at}
use Rattle.picks.specs.declared.Standing.{Standing}
use Rattle.search.specs.declared.Block.{Block}
use Rattle.search.specs.Taking.{desk_through, Ran, Stepped}
use Rattle.trail.specs.Trails.{words_of, trail_words, OnTrail, Here, Came, Ended}
use Rattle.search.specs.Ways.{Way}
use Rattle.search.proofs.Ways.{opening_over}
use Rattle.search.proofs.Searches.{stuck_torn, Went, went_first, went_two, went_next}
use Rattle.trail.proofs.Trails.{held_set}

module _ (n : ℕ) (job : ℕ → Job) (by : ℕ → ℕ) (limits : Limits job) (free : ℕ) where
  -- The first run, from a desk with nothing done yet.
  module _ (bound : ℕ) (s : Standing) (starts : s.desk ≡ desk_at free) (none_done : s.count ≡ 0) (order : List ℕ) (r : Standing)
      (after : List ℕ)
      (q : Ran n job by bound (count_from 1 n) s (run job s.desk.minute (count_from 1 n)) order r after) where
    abbrev opening : List ℕ
    opening = run job free (count_from 1 n)

    worst_after : (desk_through job s.desk opening).worst ≡ (desk_through job (desk_at free) opening).worst
    worst_after = ap (λ (d : Desk). (desk_through job d opening).worst) starts

    went : Went n job by limits free bound [] (count_from 1 n) s order opening r after
    went = went_first n job by limits free bound s starts none_done order r after q

    pub came_first : (trail : List (List ℕ)) → Came n job by free bound trail 0 r
    came_first trail = record {
      kept = λ k.
          let m = went.kept k in
          record {
            done = opening;
            rest = without_all opening (count_from 1 n);
            way = m.0;
            stuck = m.1.stuck;
            place = omega arith;
            held = λ b h. opening_over job limits n by free b (omega (arith, ap (λ (x : Desk). x.worst) m.1.desk, worst_after));
          };
      over = went.over;
    }

  -- One block more on the trail, from a desk that is within the bound.
  module _ (bound : ℕ) (trail : List (List ℕ)) (k : ℕ) (s : Standing) (done rest : List ℕ) (w : Way n job by free bound done rest s)
      (torn : decided job s.desk.minute rest ≡ false) (low : s.desk.worst ≤ bound) (place : k ≤ s.count) (room : k < length trail)
      (held : OnTrail n job by free bound trail k s.desk.worst) where
    abbrev one : List ℕ
    one = block_one job s.desk.minute rest

    abbrev two : List ℕ
    two = block_two job s.desk.minute rest

    -- The block is on the trail.
    held_more : (second : Bool) (r : Standing) → r.desk.worst ≡ (desk_through job s.desk (cond second two one)).worst →
        (second ≡ true → bound < (desk_through job s.desk one).worst) →
        OnTrail n job by free bound (set trail k (words_of s second)) (suc k) r.desk.worst
    held_more second r late over =
        let new = set trail k (words_of s second) in
        let e : trail_words new k ≡ words_of s second = get_or-set_same trail k (words_of s second) [] room in (
          record {
            from = s;
            second = second;
            held = e;
            place = place;
            done = done;
            rest = rest;
            way = w;
            torn = torn;
            late = late;
            first_over = over;
          },
          subst (λ (x : List ℕ). OnTrail n job by free bound new k (at x 1)) (sym e)
              (held_set n job by free bound trail k (words_of s second) k s.desk.worst (omega arith) held),
        )

    came_on : (c : Bool) (order : List ℕ) (r : Standing) (after : List ℕ) → s.count < r.count →
        Went n job by limits free bound done rest s order (cond c two one) r after →
        (c ≡ true → bound < (desk_through job s.desk one).worst) → Came n job by free bound (set trail k (words_of s c)) (suc k) r
    came_on c order r after h q over = record {
      kept = λ l.
          let m = q.kept l in
          record {
            done = done ++ cond c two one;
            rest = without_all (cond c two one) rest;
            way = m.0;
            stuck = m.1.stuck;
            place = omega arith;
            held = held_more c r (ap (λ (d : Desk). d.worst) m.1.desk) over;
          };
      over = q.over;
    }

    pub came_two : bound < (desk_through job s.desk one).worst → (order : List ℕ) (r : Standing) (after : List ℕ) →
        s.count < r.count → Ran n job by bound rest s two order r after →
        Came n job by free bound (set trail k (words_of s true)) (suc k) r
    came_two over order r after h q = came_on true order r after h
        (went_two n job by limits free bound done rest s w torn low over order r after q) (λ e. over)

    pub came_next : (order : List ℕ) (b : Block) (after : List ℕ) → Stepped n job by bound rest s order b after →
        Came n job by free bound (set trail k (words_of s b.second)) (k + 1) b.after
    came_next order b after q =
        let g = went_next n job by limits free bound done rest s w torn low order b after q in
        subst (λ (m : ℕ). Came n job by free bound (set trail k (words_of s b.second)) m b.after) (sym (add-one k))
        (came_on b.second order b.after after q.counts.0 g.0 g.1)

  -- A desk that the search has come to, within the bound and with rows left.
  module _ (bound : ℕ) (trail : List (List ℕ)) (k : ℕ) (s : Standing) (h : Here n job by free bound trail k s) where
    pub here_torn : (s.count ≡ n → ⊥) → decided job s.desk.minute h.rest ≡ false
    here_torn z = stuck_torn n job by h.rest s h.way.sits h.stuck z

    pub here_room : (s.count ≡ n → ⊥) → k < n
    here_room z = omega (arith, h.place, h.way.sits.count)

  -- The search is at its end.
  module _ (bound : ℕ) (trail : List (List ℕ)) (k : ℕ) (s : Standing) (g : Came n job by free bound trail k s) where
    pub ended_over : bound < s.desk.worst → Ended n job by free bound trail (record { depth = k; at = s })
    ended_over h = record { came = g; all = λ l. let z : ⊥ = omega arith in absurd z }

    pub ended_all : s.count ≡ n → Ended n job by free bound trail (record { depth = k; at = s })
    ended_all e = record { came = g; all = λ l. e }
