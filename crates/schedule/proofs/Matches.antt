-- Lists of rows and of ranks that match: the rows are those of the ranks, in any order. All rows match all ranks, and a match is kept as
-- rows are taken out. Assumes nothing.
use Prim.Native.Nat.{ℕ, zero, suc, ◌+◌, ◌≤◌, ◌<◌}
use native.Mathlib.Omega.{arith}
use native.Mathlib.Decide.{dec_lt}
use mathlib.Core.Bool.{Bool, true, false}
use mathlib.Core.Path.{◌≡◌, refl, sym, ◌∙◌, subst}
use mathlib.Core.List.Memᴰ
use mathlib.Core.List.Permᴰ
use mathlib.Core.List.{List, [], ◌∷◌, map, Memᴰ}
use lib.Dec.{T, eqb, ltb, eqb→eq, ltb→lt}
use lib.ListN.{length}
use Rattle.theory.specs.Jobs.{Job}
use Rattle.schedule.specs.Rows.{count_from, without, without_all}
use Rattle.schedule.specs.Picks.{earliest_end, outranks}
use Rattle.schedule.specs.Ranks.{ByRank}
use Rattle.schedule.proofs.Tests.{is_true}
use Rattle.schedule.proofs.Orders.{one, count, Same, count_without, length_without, count_mem, mem_count, perm_count, perm_without}
use Rattle.schedule.proofs.Orders.{mem_without, Takes}
use Rattle.schedule.proofs.Numbers.{count_range, count_once, from_mem}
use Rattle.schedule.proofs.PickLaws.{ahead_says}

-- k is one of the ranks 1 to n.
abbrev pub Rank : ℕ → ℕ → Type 0
Rank n k = (1 ≤ k) × (k ≤ n)

-- `row k` is the row of rank k. Each rank is one of 1 to n, and the rows are those of the ranks.
pub record Matches (n : ℕ) (row : ℕ → ℕ) (rows ranks : List ℕ) : Type 0 where
  pub among : (k : ℕ) → Memᴰ k ranks → Rank n k
  pub counts : Same rows (map row ranks)
  pub lengths : length rows ≡ length ranks

module _ {n : ℕ} {row : ℕ → ℕ} {rows ranks : List ℕ} (m : Matches n row rows ranks) where
  -- The row of each rank is there, and each row has a rank.
  pub row_in : {k : ℕ} → Memᴰ k ranks → Memᴰ (row k) rows
  row_in {k} h = count_mem (row k) rows (omega (arith, m.counts (row k), mem_count (row k) (map row ranks) (Memᴰ.map row h)))

  pub rank_of : {i : ℕ} → Memᴰ i rows → (k : ℕ) × Memᴰ k ranks × (row k ≡ i)
  rank_of {i} h = Memᴰ.of_map row ranks (count_mem i (map row ranks) (omega (arith, m.counts i, mem_count i rows h)))

  -- A rank and its row, taken out.
  pub match_without : {k : ℕ} → Memᴰ k ranks → Matches n row (without (row k) rows) (without k ranks)
  unfolding count
  match_without {k} h = record {
    among = λ l g. m.among l (mem_without k ranks g);
    counts = λ i. omega (arith, m.counts i, count_without (row k) rows (row_in h) i, taken i);
    lengths = omega (arith, m.lengths, length_without (row k) rows (row_in h), length_without k ranks h);
  }
    where
      taken : (i : ℕ) → one (eqb i (row k)) + count i (map row (without k ranks)) ≡ count i (map row ranks)
      taken i = (perm_count (Permᴰ.map row (perm_without k ranks h))).1 i

-- Ranks and their rows, taken out one after another.
pub match_left : {n : ℕ} {row : ℕ → ℕ} (taken : List ℕ) {rows ranks : List ℕ} → Matches n row rows ranks → Takes taken ranks →
    Matches n row (without_all (map row taken) rows) (without_all taken ranks)
unfolding without_all
match_left [] m h = m
match_left (k ∷ ks) m h = match_left ks (match_without m h.0) h.1

-- No row outranks itself.
outranks_other : (job : ℕ → Job) (i : ℕ) → ¬ T (outranks job i i)
unfolding outranks
outranks_other job i =
    (ahead_says {P = ⊥} {Q = Unit {0}} (job i).due (job i).due _ (λ l. omega arith) (λ l. tt) (λ d.
    ahead_says {P = ⊥} {Q = Unit {0}} (earliest_end (job i)) (earliest_end (job i)) (ltb i i) (λ l. omega arith) (λ l. tt) (λ e.
    (λ h. omega (arith, ltb→lt i i h), λ h. tt)))).0

module _ {n : ℕ} {job : ℕ → Job} {row : ℕ → ℕ} (byRank : ByRank n job row) where
  -- No row has two ranks.
  ranks_differ : (k l : ℕ) → 1 ≤ k → k < l → l ≤ n → ¬ (row k ≡ row l)
  ranks_differ k l h g f e =
      outranks_other job (row l) (subst (λ (i : ℕ). T (outranks job i (row l))) e
      (is_true (outranks job (row k) (row l)) (byRank.ranked k l h g f)))

  row_once : (i k m : ℕ) → 1 ≤ k → k + m ≤ suc n → count i (map row (count_from k m)) ≤ 1
  unfolding count count_from
  row_once i k zero h g = omega arith
  row_once i k (suc m) h g = step (eqb i (row k)) (eqb→eq i (row k)) (row_once i (suc k) m (omega arith) (omega arith))
    where
      later : List ℕ
      later = map row (count_from (suc k) m)

      alone : i ≡ row k → ¬ (0 < count i later)
      alone e l =
          let r = Memᴰ.of_map row (count_from (suc k) m) (count_mem i later l) in
          let c = count_range (suc k) m r.1 in
          ranks_differ k r.0 h c.0 (omega arith) (sym e ∙ sym r.2)

      step : (b : Bool) → (T b → i ≡ row k) → count i later ≤ 1 → one b + count i later ≤ 1
      step true e f = let a : ¬ (0 < count i later) = alone (e tt) in omega arith
      step false e f = omega arith

  -- All rows match all ranks.
  pub match_all : Matches n row (count_from 1 n) (count_from 1 n)
  match_all = record {
    among = λ k m. omega (arith, count_range 1 n m);
    counts = λ i. counted i (dec_lt 0 (count i all)) (dec_lt 0 (count i (map row all)));
    lengths = refl;
  }
    where
      all : List ℕ
      all = count_from 1 n

      there : (i : ℕ) → Memᴰ i all → Memᴰ i (map row all)
      there i m =
          let c = count_range 1 n m in
          let r = byRank.rank i c.0 (omega arith) in
          subst (λ (j : ℕ). Memᴰ j (map row all)) r.3 (Memᴰ.map row (from_mem r.0 1 n r.1 (omega arith)))

      back : (i : ℕ) → Memᴰ i (map row all) → Memᴰ i all
      back i m =
          let r = Memᴰ.of_map row all m in
          let c = count_range 1 n r.1 in
          let b = byRank.rows r.0 c.0 (omega arith) in
          subst (λ (j : ℕ). Memᴰ j all) r.2 (from_mem (row r.0) 1 n b.0 (omega arith))

      counted : (i : ℕ) → Dec (0 < count i all) → Dec (0 < count i (map row all)) → count i all ≡ count i (map row all)
      counted i (yes g) (yes h) = omega (arith, count_once i 1 n, row_once i 1 n (omega arith) (omega arith))
      counted i (yes g) (no h) = absurd (h (mem_count i (map row all) (there i (count_mem i all g))))
      counted i (no g) (yes h) = absurd (g (mem_count i all (back i (count_mem i (map row all) h))))
      counted i (no g) (no h) = omega arith
