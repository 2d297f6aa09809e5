-- Rows numbered anew: the same orders, pairs and list of plans. By rank; and rows left over, numbered from 1 on as they stand.
-- Assumes nothing.
use Prim.Native.Nat.{ℕ, zero, suc, ◌≤◌, ◌<◌, compare, Ordering}
use native.Mathlib.Omega.{arith}
use mathlib.Core.Bool.{Bool, true, false}
use mathlib.Core.Path.{◌≡◌, refl, sym, ap, ◌∙◌, subst}
use mathlib.Core.List.{List, [], ◌∷◌, map, map-append, Memᴰ}
use mathlib.Core.Option
use mathlib.Core.Option.{Option, none, some}
use lib.Dec.{T, leb, ltb, lt→ltb, nleb→lt}
use lib.ListN.{length}
use lib.IntN.{ℤ, pos}
use Rattle.theory.specs.Jobs.{Job, finish}
use Rattle.schedule.specs.Rows.{count_from, without_all}
use Rattle.schedule.specs.Desk.{at_most, lateness, end_of, latenesses, pair_of, keeps}
use Rattle.schedule.specs.Picks.{ahead, joined, earliest_end, outranks, first_pick, second_pick, decided, run, block, block_one}
use Rattle.schedule.specs.Picks.{block_two, blocks_for, order_for}
use Rattle.schedule.specs.Plans.{plans, list_from, list_by_bounds}
use Rattle.schedule.specs.Cover.{Agreeing, Fits32}
use Rattle.schedule.specs.Ranks.{ByRank, InRank}
use Rattle.schedule.proofs.Tests.{neither, is_false}
use Rattle.schedule.proofs.Orders.{Takes, takes_mem}
use Rattle.schedule.proofs.Numbers.{length_count}
use Rattle.schedule.proofs.Search.{Halted, ran, FoundOrder, Found, block_is, blocks_one, blocks_two, blocks_none, order_found}
use Rattle.schedule.proofs.Matches.{Rank, Matches, row_in, match_left}
use Rattle.schedule.proofs.RankPicks.{Renumbers, rank_ties, job_of, Picked, first_picked, second_picked, same_run, same_block}
use Rattle.schedule.proofs.Cover.{same_list}

-- The order for a bound, by whether its run keeps the bound.
module _ (job : ℕ → Job) (t : ℕ) (left : List ℕ) (y : ℤ) where
  order_kept : (c : ℕ) → length left ≡ c → keeps job y t (run job t left) ≡ true →
      order_for job t left y ≡ joined (run job t left) (blocks_for job c y (end_of job t (run job t left)) (without_all (run job t left) left))
  unfolding order_for
  order_kept c l h = rw (← l, h, order_for)

  order_unkept : keeps job y t (run job t left) ≡ false → order_for job t left y ≡ none
  unfolding order_for
  order_unkept h = rw (h, order_for)

joined_map : (row : ℕ → ℕ) (done : List ℕ) (o : Option (List ℕ)) → joined (map row done) (Option.map (map row) o) ≡ Option.map (map row)
    (joined done o)
unfolding joined
joined_map row done none = refl
joined_map row done (some rest) = ap {B = Option (List ℕ)} some (sym (map-append row done rest))

-- What a rank's last comparison says in place of its row's.
last_won : (o p : Ordering) (b c : Bool) → T c → ahead o (ahead p b) ≡ true → ahead o (ahead p c) ≡ true
last_won Ordering.lt p b c h e = refl
last_won Ordering.eq Ordering.lt b c h e = refl
last_won Ordering.eq Ordering.eq b true h e = refl
last_won Ordering.eq Ordering.eq b false h e = absurd h
last_won Ordering.eq Ordering.gt b c h e = e
last_won Ordering.gt p b c h e = e

module _ (n : ℕ) (job job' : ℕ → Job) (row : ℕ → ℕ) (byRank : ByRank n job row)
    (same : (k : ℕ) → 1 ≤ k → k ≤ n → job' k ≡ job (row k)) where
  pub by_rank : Renumbers n job job' row
  by_rank = record { ties = rank_ties byRank; same = same }

  -- The rows numbered anew stand by rank.
  pub in_rank : InRank n job'
  unfolding outranks
  in_rank k l h g f =
      rw (same k h (omega arith), same l (omega arith) f) (
      last_won (compare (job (row k)).due (job (row l)).due) (compare (earliest_end (job (row k))) (earliest_end (job (row l))))
      (ltb (row k) (row l)) (ltb k l)
      (lt→ltb k l g) (byRank.ranked k l h g f)
      )

-- `left` are the rows, each with one number.
module _ {n : ℕ} {job job' : ℕ → Job} {row : ℕ → ℕ} {left : List ℕ} (new : Renumbers n job job' row)
    (all : Matches n row left (count_from 1 n)) where
  abbrev Ranks : List ℕ → Type 0
  Ranks o = (k : ℕ) → Memᴰ k o → Rank n k

  -- What an order comes to is the same.
  pub end_renumbered : (t : ℕ) (o : List ℕ) → ((k : ℕ) → Memᴰ k o → (1 ≤ k) × (k ≤ n)) → end_of job t (map row o) ≡ end_of job' t o
  unfolding end_of
  end_renumbered t [] h = refl
  end_renumbered t (k ∷ ks) h =
      ap (λ (j : Job). end_of job (finish j t) (map row ks)) (job_of new k (h k (Memᴰ.head refl))) ∙ end_renumbered
      (finish (job' k) t) ks (λ l m. h l (Memᴰ.tail m))

  lates : (t : ℕ) (o : List ℕ) → Ranks o → latenesses job t (map row o) ≡ latenesses job' t o
  unfolding latenesses
  lates t [] h = refl
  lates t (k ∷ ks) h =
      rw (job_of new k (h k (Memᴰ.head refl)))
      (ap (λ (ls : List ℤ). lateness job' t k ∷ ls) (lates (finish (job' k) t) ks (λ l m. h l (Memᴰ.tail m))))

  pub pair_renumbered : (t : ℕ) (o : List ℕ) → ((k : ℕ) → Memᴰ k o → (1 ≤ k) × (k ≤ n)) → pair_of job t (map row o) ≡ pair_of job' t o
  pair_renumbered t o h = rw (end_renumbered t o h, lates t o h)

  module _ (y : ℤ) where
    -- What is found from a minute on, with c blocks at most.
    abbrev Alike : ℕ → ℕ → List ℕ → List ℕ → Type 0
    Alike c t rows ranks = blocks_for job c y t rows ≡ Option.map (map row) (blocks_for job' c y t ranks)

    -- Ranks ks that are taken first, and their rows.
    module _ (t : ℕ) {rows ranks is : List ℕ} (ks : List ℕ) (m : Matches n row rows ranks) (takes : Takes ks ranks)
        (e : is ≡ map row ks) where
      within : Ranks ks
      within l h = m.among l (takes_mem ks ranks takes l h)

      begun_keeps : keeps job y t is ≡ keeps job' y t ks
      begun_keeps = rw e (ap (at_most y) (lates t ks within))

      begun_joined : (c : ℕ) → Alike c (end_of job' t ks) (without_all (map row ks) rows) (without_all ks ranks) →
          joined is (blocks_for job c y (end_of job t is) (without_all is rows)) ≡ Option.map (map row)
          (joined ks (blocks_for job' c y (end_of job' t ks) (without_all ks ranks)))
      begun_joined c f = rw (e, end_renumbered t ks within, f)
          (joined_map row ks (blocks_for job' c y (end_of job' t ks) (without_all ks ranks)))

    -- At an undecided desk, given what is found after a block.
    module _ (c t i : ℕ) (is : List ℕ) (k : ℕ) (ks : List ℕ) (u : decided job' t (k ∷ ks) ≡ false) (m : Matches n row (i ∷ is) (k ∷ ks))
        (below : (u : ℕ) (rows ranks : List ℕ) → Halted job' u ranks → Matches n row rows ranks → Alike c u rows ranks) where
      module _ {j l : ℕ} (p : Picked new (k ∷ ks) j l) where
        block_takes : Takes (block job' l t (k ∷ ks)) (k ∷ ks)
        block_takes = (block_is job' y l t (k ∷ ks) p.rank_in).takes

        block_keeps : keeps job y t (block job j t (i ∷ is)) ≡ keeps job' y t (block job' l t (k ∷ ks))
        block_keeps = begun_keeps t (block job' l t (k ∷ ks)) m block_takes (same_block new t m p)

        block_joined : joined (block job j t (i ∷ is))
            (blocks_for job c y (end_of job t (block job j t (i ∷ is))) (without_all (block job j t (i ∷ is)) (i ∷ is))) ≡
            Option.map (map row) (joined (block job' l t (k ∷ ks))
            (blocks_for job' c y (end_of job' t (block job' l t (k ∷ ks))) (without_all (block job' l t (k ∷ ks)) (k ∷ ks))))
        block_joined =
            begun_joined t (block job' l t (k ∷ ks)) m block_takes (same_block new t m p) c
            (below _ _ _ (block_is job' y l t (k ∷ ks) p.rank_in).halts (match_left (block job' l t (k ∷ ks)) m block_takes))

      one : Picked new (k ∷ ks) (first_pick job t (i ∷ is)) (first_pick job' t (k ∷ ks))
      one = first_picked new t (i ∷ is) (k ∷ ks) m (omega arith)

      two : Picked new (k ∷ ks) (second_pick job t (i ∷ is)) (second_pick job' t (k ∷ ks))
      unfolding decided
      two = second_picked new t m (nleb→lt (length (k ∷ ks)) 1 (is_false _ (neither (leb (length (k ∷ ks)) 1) _ u).0))

      blocks_open : Alike (suc c) t (i ∷ is) (k ∷ ks)
      unfolding block_one block_two
      blocks_open = step (keeps job' y t (block_one job' t (k ∷ ks))) (keeps job' y t (block_two job' t (k ∷ ks))) refl refl
        where
          step : (b d : Bool) → keeps job' y t (block_one job' t (k ∷ ks)) ≡ b → keeps job' y t (block_two job' t (k ∷ ks)) ≡ d → Alike
              (suc c) t (i ∷ is) (k ∷ ks)
          step true d e f = rw (blocks_one job y c t i is (block_keeps one ∙ e), blocks_one job' y c t k ks e) (block_joined one)
          step false true e f = rw (blocks_two job y c t i is (block_keeps one ∙ e) (block_keeps two ∙ f), blocks_two job' y c t k ks e f)
              (block_joined two)
          step false false e f = rw (
            blocks_none job y c t i is (block_keeps one ∙ e) (block_keeps two ∙ f),
            blocks_none job' y c t k ks e f,
          )

    blocks : (c t : ℕ) (rows ranks : List ℕ) → Halted job' t ranks → Matches n row rows ranks → Alike c t rows ranks
    unfolding blocks_for
    blocks zero t [] [] u m = refl
    blocks zero t [] (k ∷ ks) u m = let z : ⊥ = omega (arith, m.lengths) in absurd z
    blocks zero t (i ∷ is) [] u m = let z : ⊥ = omega (arith, m.lengths) in absurd z
    blocks zero t (i ∷ is) (k ∷ ks) u m = refl
    blocks (suc c) t [] [] u m = refl
    blocks (suc c) t [] (k ∷ ks) u m = let z : ⊥ = omega (arith, m.lengths) in absurd z
    blocks (suc c) t (i ∷ is) [] u m = let z : ⊥ = omega (arith, m.lengths) in absurd z
    blocks (suc c) t (i ∷ is) (k ∷ ks) u m = blocks_open c t i is k ks u m (λ v rows ranks h g. blocks c v rows ranks h g)

    order : (t : ℕ) (rows ranks : List ℕ) → Matches n row rows ranks → order_for job t rows y ≡ Option.map (map row)
        (order_for job' t ranks y)
    unfolding run
    order t rows ranks m = step (keeps job' y t first) refl
      where
        first : List ℕ
        first = run job' t ranks

        takes : Takes first ranks
        takes = (ran job' (length ranks) t ranks (omega arith)).takes

        rest : Alike (length ranks) (end_of job' t first) (without_all (map row first) rows) (without_all first ranks)
        rest = blocks (length ranks) _ _ _ (ran job' (length ranks) t ranks (omega arith)).halts (match_left first m takes)

        kept : keeps job y t (run job t rows) ≡ keeps job' y t first
        kept = begun_keeps t first m takes (same_run new t m)

        step : (b : Bool) → keeps job' y t first ≡ b → order_for job t rows y ≡ Option.map (map row) (order_for job' t ranks y)
        step true e = rw (order_kept job t rows y (length ranks) m.lengths (kept ∙ e), order_kept job' t ranks y (length ranks) refl e)
            (begun_joined t first m takes (same_run new t m) (length ranks) rest)
        step false e = rw (order_unkept job t rows y (kept ∙ e), order_unkept job' t ranks y e)

  -- The order for a bound is the same, and of the same rows.
  pub renumbered : (t : ℕ) (y : ℤ) → order_for job t left y ≡ Option.map (map row) (order_for job' t (count_from 1 n) y)
  renumbered t y = order y t left (count_from 1 n) all

  pub order_rows : (t : ℕ) (y : ℤ) (o : List ℕ) → order_for job' t (count_from 1 n) y ≡ some o → (k : ℕ) → Memᴰ k o → (1 ≤ k) × (k ≤ n)
  order_rows t y o e k m =
      let f : FoundOrder job' y t (count_from 1 n) o = subst (Found job' y t (count_from 1 n)) e (order_found job' t (count_from 1 n) y) in
      all.among k (takes_mem o (count_from 1 n) f.takes k m)

  pub agreeing : Agreeing job left → Agreeing job' (count_from 1 n)
  agreeing a k l h g =
      let m = all in
      rw (← job_of new k (m.among k h), ← job_of new l (m.among l g)) (a (row k) (row l) (row_in m h) (row_in m g))

  -- The list by bounds, and so the list of plans.
  same_from : (t c : ℕ) (y : ℤ) → list_from job t left c y ≡ list_from job' t (count_from 1 n) c y
  unfolding list_from
  same_from t zero y = refl
  same_from t (suc c) y = step (order_for job' t (count_from 1 n) y) refl (same_from t c)
    where
      step : (o : Option (List ℕ)) → order_for job' t (count_from 1 n) y ≡ o →
          ((z : ℤ) → list_from job t left c z ≡ list_from job' t (count_from 1 n) c z) →
          list_from job t left (suc c) y ≡ list_from job' t (count_from 1 n) (suc c) y
      step none e f = rw (renumbered t y, e, list_from)
      step (some o) e f = let h = order_rows t y o e in rw (renumbered t y, e, list_from, end_renumbered t o h, lates t o h, f)

  pub same_plans : (t : ℕ) → Agreeing job left → 0 < n → Fits32 job t left → Fits32 job' t (count_from 1 n) → plans job t left ≡
      plans job' t (count_from 1 n)
  unfolding list_by_bounds
  same_plans t a l f g =
      let some_row : 0 < length (count_from 1 n) = omega (arith, length_count 1 n) in
      sym (same_list job t left a (omega (arith, all.lengths)) f) ∙ same_from t 4294967296 (pos 2147483647) ∙
      same_list job' t (count_from 1 n) (agreeing a) some_row g
