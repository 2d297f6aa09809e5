-- The search taken up again with a smaller bound: at the first block that holds the worst lateness, or not at all.
-- Assumes nothing.
use Prim.Native.Nat.{ℕ, suc, ◌≤◌, ◌<◌}
use native.Mathlib.Omega.{arith}
use mathlib.Core.Bool.{Bool, true, false, cond}
use mathlib.Core.Path.{◌≡◌, refl, sym, ap, ◌∙◌, subst}
use mathlib.Core.List.{List}
use mathlib.Core.Option.{none}
use lib.ListN.{length, set}
use Rattle.theory.specs.Jobs.{Job}
use Rattle.schedule.specs.Picks.{decided, block_one, block_two}
use Rattle.schedule.specs.Columns.{at, Limits}
use Rattle.picks.specs.declared.Standing.{Standing}
use Rattle.picks.specs.Bits.{bit}
use Rattle.picks.specs.Standing.{Sits}
use Rattle.trail.specs.declared.Reached.{Reached}
use Rattle.search.specs.Taking.{desk_through, Ran}
use Rattle.search.specs.Searched.{order_at_raised}
use Rattle.trail.specs.Trails.{words_of, trail_words, worst_at, Back, Entry, OnTrail, Here, Came, Ended, Lowered}
use Rattle.search.proofs.Ways.{way_none}
use Rattle.trail.proofs.Trails.{held_less, held_back}
use Rattle.search.proofs.Searches.{torn_more}
use Rattle.trail.proofs.Coming.{came_two}

module _ (n : ℕ) (job : ℕ → Job) (by : ℕ → ℕ) (limits : Limits job) (free : ℕ) where
  pub lowered_room : (before bound : ℕ) (trail : List (List ℕ)) (last : Reached) → Lowered n job by free before bound trail last →
      last.depth ≤ n
  lowered_room before bound trail last g = let h = g.found.came.kept g.kept in omega (arith, h.place, h.way.sits.count)

  -- The search is taken up again with the bound one below the worst lateness.
  module _ (before bound : ℕ) (trail : List (List ℕ)) (last : Reached) (g : Lowered n job by free before bound trail last) (k : ℕ)
      (back : Back trail bound last.depth k) where
    here : Here n job by free before trail last.depth last.at
    here = g.found.came.kept g.kept

    pub back_held : (late : ℕ) × (bound < late) × OnTrail n job by free bound trail k late
    back_held =
        held_back n job by free limits bound trail last.depth last.at.desk.worst k
        (held_less n job by free limits before bound (omega (arith, g.kept, g.less)) trail last.depth last.at.desk.worst
        here.held) (omega (arith, g.less)) back

    -- No order keeps the bound: the search stays where it came to.
    stays : order_at_raised job n free bound ≡ none → Ended n job by free bound trail last
    stays e = record {
      came = record { kept = λ h. let z : ⊥ = omega (arith, g.less) in absurd z; over = λ h. e };
      all = λ h. let z : ⊥ = omega (arith, g.less) in absurd z;
    }

    -- The first run holds the worst lateness.
    pub ended_opening : k ≡ 0 → Ended n job by free bound trail last
    ended_opening e =
        let x = back_held in
        stays (subst (λ (m : ℕ). OnTrail n job by free bound trail m x.0) e x.2 bound x.1)

    module _ (e : ℕ) (is : k ≡ suc e) where
      abbrev late : ℕ
      late = back_held.0

      entry : Entry n job by free bound e (trail_words trail e) late × OnTrail n job by free bound trail e (worst_at trail e)
      entry = subst (λ (m : ℕ). OnTrail n job by free bound trail m late) is back_held.2

      pub block_from : Entry n job by free bound e (trail_words trail e) late
      block_from = entry.0

      abbrev from : Standing
      from = block_from.from

      from_low : from.desk.worst ≤ bound
      from_low = omega (arith, back.begun e is, ap (λ (w : List ℕ). at w 1) block_from.held)

      from_more : from.count ≡ n → ⊥
      from_more = torn_more n job by block_from.rest from block_from.way.sits block_from.torn

      -- Block two holds it.
      pub ended_two : (at (trail_words trail e) 4 ≡ 0 → ⊥) → Ended n job by free bound trail last
      ended_two z = stays (go block_from.second refl)
        where
          go : (c : Bool) → block_from.second ≡ c → order_at_raised job n free bound ≡ none
          go false x = absurd (z (ap (λ (w : List ℕ). at w 4) block_from.held ∙ ap bit x))
          go true x =
              way_none job limits n by free bound block_from.done block_from.rest from block_from.way from_more
              (block_from.first_over x) from_low
              (omega (
                arith,
                back_held.1,
                block_from.late ∙
                    ap (λ (c : Bool). (desk_through job from.desk
                    (cond c (block_two job from.desk.minute block_from.rest)
                    (block_one job from.desk.minute block_from.rest))).worst) x,
              ))

      -- Block one holds it: block two is taken in its place.
      module _ (z : at (trail_words trail e) 4 ≡ 0) where
        block_one_lem : block_from.second ≡ false
        block_one_lem = go block_from.second refl
          where
            go : (c : Bool) → block_from.second ≡ c → block_from.second ≡ false
            go false x = x
            go true x = let y : ⊥ = omega (arith, sym z ∙ (ap (λ (w : List ℕ). at w 4) block_from.held ∙ ap bit x)) in absurd y

        came_instead : e < length trail → (order : List ℕ) (r : Standing) (after : List ℕ) →
            (from.count < r.count) × Ran n job by bound block_from.rest from
            (block_two job from.desk.minute block_from.rest) order r after →
            Came n job by free bound (set trail e (words_of from true)) k r
        came_instead room order r after q =
            subst (λ (m : ℕ). Came n job by free bound (set trail e (words_of from true)) m r) (sym is)
            (came_two n job by limits free bound trail e from block_from.done block_from.rest block_from.way
            block_from.torn from_low block_from.place room
            (subst (λ (w : List ℕ). OnTrail n job by free bound trail e (at w 1)) block_from.held entry.1)
            (omega (
              arith,
              back_held.1,
              block_from.late ∙
                  ap (λ (c : Bool). (desk_through job from.desk
                  (cond c (block_two job from.desk.minute block_from.rest)
                  (block_one job from.desk.minute block_from.rest))).worst) block_one_lem,
            ))
            order r after q.0 q.1)

        -- The desk s that the code has from the words is the one where the block began.
        module _ (s : Standing) (same : s ≡ from) where
          pub from_sits : Sits n job by block_from.rest s
          from_sits = subst (λ (x : Standing). Sits n job by block_from.rest x) (sym same) block_from.way.sits

          pub from_torn : decided job s.desk.minute block_from.rest ≡ false
          from_torn = ap (λ (x : Standing). decided job x.desk.minute block_from.rest) same ∙ block_from.torn

          pub came_resumed : e < length trail → (order : List ℕ) (r : Standing) (after : List ℕ) →
              (s.count < r.count) × Ran n job by bound block_from.rest s
              (block_two job s.desk.minute block_from.rest) order r after →
              (words : List ℕ) → words ≡ words_of s true → Came n job by free bound (set trail e words) k r
          came_resumed room order r after q words held =
              subst (λ (w : List ℕ). Came n job by free bound (set trail e w) k r)
              (ap (λ (x : Standing). words_of x true) (sym same) ∙ sym held)
              (came_instead room order r after
              (subst (λ (x : Standing). (x.count < r.count) ×
              Ran n job by bound block_from.rest x (block_two job x.desk.minute block_from.rest) order r after) same q))
