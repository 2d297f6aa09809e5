-- Picks, runs and blocks among ranks and among their rows are the same.
-- Assumes nothing.
use Prim.Native.Nat.{ℕ, zero, suc, ◌+◌, ◌≤◌, ◌<◌, compare, Ordering}
use native.Mathlib.Omega.{arith}
use native.Mathlib.Decide.{dec_lt}
use mathlib.Core.Bool.{Bool, true, false}
use mathlib.Core.Path.{◌≡◌, refl, sym, ap, ◌∙◌, subst}
use mathlib.Core.List.{List, [], ◌∷◌, map, Memᴰ}
use lib.Dec.{T, leb, nleb→lt}
use lib.ListN.{length}
use Rattle.theory.specs.Jobs.{Job, ready, finish}
use Rattle.schedule.specs.Picks.{ahead, earliest_end, outranks, before, first_pick, others, second_pick, decided, run_for, run, block}
use Rattle.schedule.specs.Ranks.{ByRank}
use Rattle.schedule.proofs.Tests.{Compared, compared, is_true, is_false}
use Rattle.schedule.proofs.Orders.{length_without, mem_without}
use Rattle.schedule.proofs.PickLaws.{Ahead, ahead_same, before_ahead, least_mem, least_ahead, run_step, run_stop}
use Rattle.schedule.proofs.Matches.{Rank, Matches, row_in, rank_of, match_without}

-- Rows numbered anew from 1 to n: `row k` is the row of the number k, which has its job, and of rows with equal dues and earliest ends
-- the smaller has the smaller number.
pub record Renumbers (n : ℕ) (job job' : ℕ → Job) (row : ℕ → ℕ) : Type 0 where
  pub ties : (k l : ℕ) → 1 ≤ k → k < l → l ≤ n → (job (row l)).due ≤ (job (row k)).due → earliest_end (job (row l)) ≤ earliest_end
      (job (row k)) → row k ≤ row l
  pub same : (k : ℕ) → 1 ≤ k → k ≤ n → job' k ≡ job (row k)

-- A comparison that is no greater, and what follows it.
ahead_next : (i j : ℕ) (next : Bool) → i ≤ j → next ≡ true → T (ahead (compare i j) next)
ahead_next i j next h e = go (compare i j) (compared i j)
  where
    go : (o : Ordering) → Compared i j o → T (ahead o next)
    go Ordering.lt c = tt
    go Ordering.eq c = is_true next e
    go Ordering.gt c = let z : ⊥ = omega arith in absurd z

-- Numbered by rank, ties are so.
pub rank_ties : {n : ℕ} {job : ℕ → Job} {row : ℕ → ℕ} → ByRank n job row → (k l : ℕ) → 1 ≤ k → k < l → l ≤ n →
    (job (row l)).due ≤ (job (row k)).due → earliest_end (job (row l)) ≤ earliest_end (job (row k)) → row k ≤ row l
unfolding before ready
rank_ties {n} {job} {row} byRank k l h c g d e =
    let t : ℕ = (job (row k)).release + (job (row l)).release in
    (before_ahead job t (row k) (row l) (ahead_next (ready (job (row k)) t) (ready (job (row l)) t) (outranks job (row k) (row l))
    (omega arith) (byRank.ranked k l h c g))).by_row (omega arith) d e

module _ {n : ℕ} {job job' : ℕ → Job} {row : ℕ → ℕ} (new : Renumbers n job job' row) where
  pub job_of : (k : ℕ) → Rank n k → job (row k) ≡ job' k
  job_of k h = sym (new.same k h.0 h.1)

  -- Where a rank is ahead of another, its row is ahead of the other's.
  row_ahead : {t k l : ℕ} → Rank n k → Rank n l → Ahead job' t k l → Ahead job t (row k) (row l)
  unfolding before
  row_ahead {t} {k} {l} h g a = record {
    by_ready = sooner;
    by_due = rw (job_of k h, job_of l g) a.by_due;
    by_end_lem = rw (job_of k h, job_of l g) a.by_end_lem;
    by_row = λ r d e. last r d e (dec_lt k l);
  }
    where
      sooner : ready (job (row k)) t ≤ ready (job (row l)) t
      sooner = rw (job_of k h, job_of l g) a.by_ready

      tie : ready (job (row l)) t ≤ ready (job (row k)) t → (job (row l)).due ≤ (job (row k)).due → earliest_end (job (row l)) ≤ earliest_end
          (job (row k)) → k ≤ l
      tie = rw (job_of k h, job_of l g) a.by_row

      last : ready (job (row l)) t ≤ ready (job (row k)) t → (job (row l)).due ≤ (job (row k)).due → earliest_end (job (row l)) ≤ earliest_end
          (job (row k)) →
          Dec (k < l) → row k ≤ row l
      last r d e (yes c) = new.ties k l h.0 c g.1 d e
      last r d e (no c) = let s : k ≡ l = omega (arith, tie r d e) in omega (arith, ap row s)

  -- A row i and the rank k that is its own, one of some ranks.
  pub record Picked (ranks : List ℕ) (i k : ℕ) : Type 0 where
    pub rank_in : Memᴰ k ranks
    pub is_row : i ≡ row k
    pub is_job : job i ≡ job' k

  picked : {rows ranks : List ℕ} {i k : ℕ} → Matches n row rows ranks → Memᴰ k ranks → i ≡ row k → Picked ranks i k
  picked {k = k} m h e = record { rank_in = h; is_row = e; is_job = ap job e ∙ job_of k (m.among k h) }

  pub first_picked : (t : ℕ) (rows ranks : List ℕ) → Matches n row rows ranks → 0 < length ranks → Picked ranks (first_pick job t rows)
      (first_pick job' t ranks)
  unfolding first_pick
  first_picked t [] ranks m l = let z : ⊥ = omega (arith, m.lengths) in absurd z
  first_picked t (i ∷ is) [] m l = let z : ⊥ = omega arith in absurd z
  first_picked t (i ∷ is) (k ∷ ks) m l =
      let k-in = least_mem job' t k ks in
      let r = rank_of m (least_mem job t i is) in
      let back = row_ahead (m.among _ k-in) (m.among r.0 r.1) (least_ahead job' t k ks r.1) in
      picked m k-in (ahead_same job (least_ahead job t i is (row_in m k-in))
      (subst (λ (j : ℕ). Ahead job t (row (first_pick job' t (k ∷ ks))) j) r.2 back))

  module _ (t : ℕ) {rows ranks : List ℕ} (m : Matches n row rows ranks) where
    match_others : 0 < length ranks → Matches n row (others job t rows) (others job' t ranks)
    unfolding others
    match_others l = let p = first_picked t rows ranks m l in rw p.is_row (match_without m p.rank_in)

    pub second_picked : 1 < length ranks → Picked ranks (second_pick job t rows) (second_pick job' t ranks)
    unfolding second_pick others
    second_picked l =
        let f = first_picked t rows ranks m (omega arith) in
        let more = length_without (first_pick job' t ranks) ranks f.rank_in in
        let s = first_picked t (others job t rows) (others job' t ranks) (match_others (omega arith)) (omega arith) in
        picked m (mem_without (first_pick job' t ranks) ranks s.rank_in) s.is_row

    same_decided : 0 < length ranks → decided job t rows ≡ decided job' t ranks
    unfolding decided
    same_decided l = step (leb (length ranks) 1) refl
      where
        step : (b : Bool) → leb (length ranks) 1 ≡ b → decided job t rows ≡ decided job' t ranks
        step true e = rw (m.lengths, e)
        step false e =
            let f = first_picked t rows ranks m l in
            let s = second_picked (nleb→lt (length ranks) 1 (is_false (leb (length ranks) 1) e)) in
            rw (m.lengths, f.is_job, s.is_job)

  runs : (c t : ℕ) (rows ranks : List ℕ) → Matches n row rows ranks → run_for job c t rows ≡ map row (run_for job' c t ranks)
  unfolding run_for
  runs zero t rows ranks m = refl
  runs (suc c) t [] [] m = refl
  runs (suc c) t [] (k ∷ ks) m = let z : ⊥ = omega (arith, m.lengths) in absurd z
  runs (suc c) t (i ∷ is) [] m = let z : ⊥ = omega (arith, m.lengths) in absurd z
  runs (suc c) t (i ∷ is) (k ∷ ks) m =
      step (decided job' t (k ∷ ks)) refl (runs c (finish (job' f) t) (others job t (i ∷ is)) (others job' t (k ∷ ks))
      (match_others t m (omega arith)))
    where
      f : ℕ
      f = first_pick job' t (k ∷ ks)

      p : Picked (k ∷ ks) (first_pick job t (i ∷ is)) f
      p = first_picked t (i ∷ is) (k ∷ ks) m (omega arith)

      d : decided job t (i ∷ is) ≡ decided job' t (k ∷ ks)
      d = same_decided t m (omega arith)

      step : (b : Bool) → decided job' t (k ∷ ks) ≡ b →
          run_for job c (finish (job' f) t) (others job t (i ∷ is)) ≡ map row (run_for job' c (finish (job' f) t) (others job' t (k ∷ ks))) →
          run_for job (suc c) t (i ∷ is) ≡ map row (run_for job' (suc c) t (k ∷ ks))
      step true e r = rw (run_step job c t i is (d ∙ e), run_step job' c t k ks e, p.is_job, p.is_row, r)
      step false e r = rw (run_stop job c t i is (d ∙ e), run_stop job' c t k ks e)

  pub same_run : (t : ℕ) {rows ranks : List ℕ} → Matches n row rows ranks → run job t rows ≡ map row (run job' t ranks)
  unfolding run
  same_run t {rows} {ranks} m = ap (λ (c : ℕ). run_for job c t rows) m.lengths ∙ runs (length ranks) t rows ranks m

  pub same_block : (t : ℕ) {rows ranks : List ℕ} {i k : ℕ} → Matches n row rows ranks → Picked ranks i k → block job i t rows ≡ map row
      (block job' k t ranks)
  unfolding block
  same_block t {k = k} m p = rw (p.is_job, p.is_row, same_run (finish (job' k) t) (match_without m p.rank_in))
