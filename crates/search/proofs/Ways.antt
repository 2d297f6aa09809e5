-- The way to the order for a bound and for each smaller one: how it begins with the first run, goes on with a block, and ends.
-- Assumes nothing.
use Prim.Native.Nat.{ℕ, zero, suc, ◌≤◌, ◌<◌}
use native.Mathlib.Omega.{arith}
use mathlib.Core.Bool.{Bool, true, false, ◌&&◌}
use mathlib.Core.Path.{◌≡◌, refl, sym, ap, ◌∙◌, subst}
use mathlib.Core.List.{List, [], ◌∷◌, ◌++◌, append-nil, append_assoc}
use mathlib.Core.Option.{Option, none, some}
use lib.Dec.{leb}
use lib.IntN.{ℤ}
use lib.ListN.{length, length-append}
use borrow.Author.Tests.{le-leb, lt-leb}
use Rattle.theory.specs.Jobs.{Job}
use Rattle.schedule.specs.declared.Desk.{Desk}
use Rattle.schedule.specs.Rows.{count_from, without_all}
use Rattle.schedule.specs.Desk.{end_of, keeps}
use Rattle.schedule.specs.Picks.{joined, run, block, block_one, block_two, blocks_for, order_for}
use Rattle.schedule.specs.Columns.{Limits}
use Rattle.schedule.specs.Offset.{lowered, desk_at}
use Rattle.schedule.proofs.Numbers.{length_count}
use Rattle.schedule.proofs.Search.{blocks_one, blocks_two, blocks_none}
use Rattle.picks.specs.declared.Standing.{Standing}
use Rattle.search.specs.Taking.{desk_through, After}
use Rattle.search.specs.Searched.{order_at_raised}
use Rattle.search.specs.Ways.{Way}
use Rattle.search.proofs.Signs.{through_minute, through_within, through_grows, through_append}

no_rows : (js : List ℕ) → length js ≡ 0 → js ≡ []
no_rows [] e = refl
no_rows (j ∷ js) e = let z : ⊥ = omega arith in absurd z

joined_append : (a b : List ℕ) (x : Option (List ℕ)) → joined a (joined b x) ≡ joined (a ++ b) x
unfolding joined
joined_append a b none = refl
joined_append a b (some o) = ap (λ (l : List ℕ). some l) (sym (append_assoc a b o))

joined_none : (a : List ℕ) → joined a none ≡ none
unfolding joined
joined_none a = refl

block_some : (job : ℕ → Job) (i t : ℕ) (left : List ℕ) → 1 ≤ length (block job i t left)
unfolding block
block_some job i t left = omega arith

module _ (job : ℕ → Job) (limits : Limits job) where
  -- From a desk within the bound, an order keeps the bound exactly where the desk after it is within the bound.
  module _ (b : ℕ) (d : Desk) (o : List ℕ) (low : d.worst ≤ b) where
    within : keeps job (lowered b) d.minute o ≡ leb (desk_through job d o).worst b
    within = sym (through_within job limits b d o ∙ ap (λ (x : Bool). x && keeps job (lowered b) d.minute o) (le-leb d.worst b low))

    pub keeps_it : (desk_through job d o).worst ≤ b → keeps job (lowered b) d.minute o ≡ true
    keeps_it h = within ∙ le-leb (desk_through job d o).worst b h

    pub breaks_it : b < (desk_through job d o).worst → keeps job (lowered b) d.minute o ≡ false
    breaks_it h = within ∙ lt-leb (desk_through job d o).worst b h

  module _ (n : ℕ) (by : ℕ → ℕ) (free : ℕ) where
    abbrev all : List ℕ
    all = count_from 1 n

    abbrev opening : List ℕ
    opening = run job free all

    -- The order for a bound, by the first run.
    order_opens : (y : ℤ) → keeps job y free opening ≡ true →
        order_for job free all y ≡ joined opening (blocks_for job (length all) y (end_of job free opening) (without_all opening all))
    unfolding order_for
    order_opens y h = rw (h, order_for)

    order_shut : (y : ℤ) → keeps job y free opening ≡ false → order_for job free all y ≡ none
    unfolding order_for
    order_shut y h = rw (h, order_for)

    -- The first run is above the bound.
    pub opening_over : (b : ℕ) → b < (desk_through job (desk_at free) opening).worst → order_at_raised job n free b ≡ none
    opening_over b h = order_shut (lowered b) (breaks_it b (desk_at free) opening (omega arith) h)

    -- After the first run.
    pub way_first : (bound : ℕ) (s r : Standing) → s.desk ≡ desk_at free → s.count ≡ 0 → After n job by all s opening r →
        Way n job by free bound opening (without_all opening all) r
    way_first bound s r e c m =
        let d : r.desk ≡ desk_through job (desk_at free) opening = m.desk ∙ ap (λ (x : Desk). desk_through job x opening) e in
        let k : r.desk.minute ≡ end_of job free opening = ap (λ (x : Desk). x.minute) d ∙ through_minute job (desk_at free) opening in
        record {
          fuel = length all;
          sits = m.sits;
          desk = d;
          count = omega (arith, m.count, c);
          enough = omega (arith, m.sits.count, length_count 1 n);
          leads = λ b h low.
              order_opens (lowered b) (keeps_it b (desk_at free) opening (omega arith) (omega (arith, ap (λ (x : Desk). x.worst) d))) ∙
              ap (λ (u : ℕ). joined opening (blocks_for job (length all) (lowered b) u (without_all opening all))) (sym k);
        }

    -- A smaller bound.
    pub way_less : (bound less : ℕ) → less ≤ bound → (done rest : List ℕ) (s : Standing) → Way n job by free bound done rest s →
        Way n job by free less done rest s
    way_less bound less h done rest s w = record {
      fuel = w.fuel;
      sits = w.sits;
      desk = w.desk;
      count = w.count;
      enough = w.enough;
      leads = λ b l low. w.leads b (omega arith) low;
    }

    module _ (bound : ℕ) (done rest : List ℕ) (s : Standing) (w : Way n job by free bound done rest s) where
      abbrev now : ℕ
      now = s.desk.minute

      abbrev one : List ℕ
      one = block_one job now rest

      abbrev two : List ℕ
      two = block_two job now rest

      -- No row is left: the rows done are the order.
      pub way_done : s.count ≡ n → s.desk.worst ≤ bound → order_at_raised job n free bound ≡ some done
      unfolding blocks_for joined
      way_done e low =
          let l : rest ≡ [] = no_rows rest (omega (arith, w.sits.count)) in
          w.leads bound (omega arith) low ∙
          (ap (λ (js : List ℕ). joined done (blocks_for job w.fuel (lowered bound) now js)) l ∙
          (ap (joined done) (none_more w.fuel now) ∙ whole))
        where
          none_more : (fuel t : ℕ) → blocks_for job fuel (lowered bound) t [] ≡ some []
          none_more zero t = refl
          none_more (suc fuel) t = refl

          whole : joined done (some []) ≡ some done
          whole = ap (λ (o : List ℕ). some o) (append-nil done)

      -- What the blocks from here on are, once rows are left.
      record Left : Type 0 where
        pub i : ℕ
        pub is : List ℕ
        pub m : ℕ
        pub rows : rest ≡ i ∷ is
        pub steps : w.fuel ≡ suc m

      some_left : (s.count ≡ n → ⊥) → Left
      some_left z = go rest w.fuel refl refl
        where
          go : (js : List ℕ) (fuel : ℕ) → rest ≡ js → w.fuel ≡ fuel → Left
          go [] fuel e f = absurd (z (omega (arith, w.sits.count, ap length e)))
          go (i ∷ is) zero e f = let x : ⊥ = omega (arith, w.enough, ap length e, f) in absurd x
          go (i ∷ is) (suc m) e f = record { i = i; is = is; m = m; rows = e; steps = f }

      module _ (z : s.count ≡ n → ⊥) where
        abbrev m : ℕ
        m = (some_left z).m

        -- The three ways on for the bound b.
        module _ (b : ℕ) where
          abbrev after : List ℕ → Option (List ℕ)
          after o = joined o (blocks_for job m (lowered b) (end_of job now o) (without_all o rest))

          abbrev next : Option (List ℕ)
          next = blocks_for job w.fuel (lowered b) now rest

          on_one : keeps job (lowered b) now one ≡ true → next ≡ after one
          on_one h =
              let q = some_left z in
              subst (λ (js : List ℕ). keeps job (lowered b) now (block_one job now js) ≡ true →
              blocks_for job w.fuel (lowered b) now js ≡ joined (block_one job now js)
              (blocks_for job m (lowered b) (end_of job now (block_one job now js)) (without_all (block_one job now js) js)))
              (sym q.rows) (λ k. ap (λ (f : ℕ). blocks_for job f (lowered b) now (q.i ∷ q.is)) q.steps ∙
              blocks_one job (lowered b) m now q.i q.is k) h

          on_two : keeps job (lowered b) now one ≡ false → keeps job (lowered b) now two ≡ true → next ≡ after two
          on_two h g =
              let q = some_left z in
              subst (λ (js : List ℕ). keeps job (lowered b) now (block_one job now js) ≡ false →
              keeps job (lowered b) now (block_two job now js) ≡ true →
              blocks_for job w.fuel (lowered b) now js ≡ joined (block_two job now js)
              (blocks_for job m (lowered b) (end_of job now (block_two job now js)) (without_all (block_two job now js) js)))
              (sym q.rows) (λ k l. ap (λ (f : ℕ). blocks_for job f (lowered b) now (q.i ∷ q.is)) q.steps ∙
              blocks_two job (lowered b) m now q.i q.is k l) h g

          on_none : keeps job (lowered b) now one ≡ false → keeps job (lowered b) now two ≡ false → next ≡ none
          on_none h g =
              let q = some_left z in
              subst (λ (js : List ℕ). keeps job (lowered b) now (block_one job now js) ≡ false →
              keeps job (lowered b) now (block_two job now js) ≡ false → blocks_for job w.fuel (lowered b) now js ≡ none)
              (sym q.rows) (λ k l. ap (λ (f : ℕ). blocks_for job f (lowered b) now (q.i ∷ q.is)) q.steps ∙
              blocks_none job (lowered b) m now q.i q.is k l) h g

        -- A block o that is the next one for all bounds that the desk r after it keeps.
        way_block : (o : List ℕ) (r : Standing) → 1 ≤ length o → After n job by rest s o r →
            ((b : ℕ) → b ≤ bound → (desk_through job s.desk o).worst ≤ b → s.desk.worst ≤ b →
            blocks_for job w.fuel (lowered b) now rest ≡ joined o
            (blocks_for job m (lowered b) (end_of job now o) (without_all o rest))) →
            Way n job by free bound (done ++ o) (without_all o rest) r
        way_block o r long g steps =
            let t : r.desk.minute ≡ end_of job now o = ap (λ (x : Desk). x.minute) g.desk ∙ through_minute job s.desk o in
            record {
              fuel = m;
              sits = g.sits;
              desk = g.desk ∙ (ap (λ (x : Desk). desk_through job x o) w.desk ∙ sym (through_append job (desk_at free) done o));
              count = omega (arith, g.count, w.count, length-append done o);
              enough = omega (arith, g.count, g.sits.count, w.sits.count, w.enough, (some_left z).steps);
              leads = λ b h low.
                  let grows = through_grows job limits s.desk o in
                  let late = ap (λ (x : Desk). x.worst) g.desk in
                  w.leads b h (omega arith) ∙
                  (ap (joined done) (steps b h (omega arith) (omega arith)) ∙
                  (joined_append done o (blocks_for job m (lowered b) (end_of job now o) (without_all o rest)) ∙
                  ap (λ (u : ℕ). joined (done ++ o) (blocks_for job m (lowered b) u (without_all o rest))) (sym t)));
            }

        pub way_one : (r : Standing) → After n job by rest s one r → Way n job by free bound (done ++ one) (without_all one rest) r
        unfolding block_one
        way_one r g = way_block one r (block_some job _ now rest) g (λ b h k low. on_one b (keeps_it b s.desk one low k))

        module _ (over : bound < (desk_through job s.desk one).worst) where
          pub way_two : (r : Standing) → After n job by rest s two r → Way n job by free bound (done ++ two) (without_all two rest) r
          unfolding block_two
          way_two r g = way_block two r (block_some job _ now rest) g
              (λ b h k low. on_two b (breaks_it b s.desk one low (omega arith)) (keeps_it b s.desk two low k))

          -- Neither block is within the bound.
          pub way_none : s.desk.worst ≤ bound → bound < (desk_through job s.desk two).worst → order_at_raised job n free bound ≡ none
          way_none low h =
              w.leads bound (omega arith) low ∙
              (ap (joined done) (on_none bound (breaks_it bound s.desk one low over) (breaks_it bound s.desk two low h)) ∙
              joined_none done)
