-- The rows left as they are gathered: each number has its row's job, in the limits; and they are the same rows, numbered anew.
-- Assumes nothing.
use Prim.Native.Nat.{ℕ, suc, ◌+◌, ◌-◌, ◌≤◌, ◌<◌}
use native.Mathlib.Omega.{arith}
use mathlib.Core.Bool.{Bool}
use mathlib.Core.Path.{◌≡◌, sym, ap, ◌∙◌}
use mathlib.Core.List.{List, map, Memᴰ}
use lib.ListN.{length, length-map}
use lib.Seq.{ext_get_or}
use Rattle.schedule.specs.Limits.{most_rows, row_places, latest_minute, longest_time, latest_due}
use Rattle.schedule.specs.Rows.{job, count_from}
use Rattle.schedule.specs.Columns.{at, columns}
use Rattle.schedule.specs.Filled.{Filled, from}
use Rattle.schedule.proofs.Numbers.{length_count, count_range}
use Rattle.schedule.proofs.Orders.{count}
use Rattle.schedule.proofs.Matches.{Matches}
use Rattle.schedule.proofs.RankPicks.{Renumbers}
use Rattle.schedule.proofs.Filling.{counted_from_one}
use Rattle.rows.specs.InColumns.{Within}
use Rattle.running.specs.Running.{job_in}
use Rattle.running.specs.Words.{count_in, minute_in, releases, times, dues, rows_in, left_to, running, IsDesk}
use Rattle.running.proofs.Fits.{counted_at, row_held}
use Rattle.rows_left.specs.declared.Left.{Left}
use Rattle.rows_left.specs.Left.{plain_left, can_plan}
use Rattle.rows_left.specs.Gathered.{left_at, word_left, FitTested, jobs_left, Gathered}
use Rattle.rows_left.proofs.LeftRows.{left_rising, left_mem}
use Rattle.rows_left.proofs.Plain.{plain_size, plain_job}

-- The rows left are no more than the most rows of a desk.
pub few_left : {ws : List ℕ} {n : ℕ} → IsDesk ws → n ≡ length (left_to ws (count_in ws)) → n ≤ most_rows
few_left {ws} desk counted = omega (arith, desk.count, (left_rising ws (count_in ws)).few)

-- The ranges of what the rows left have.
pub left_ranged : {ws : List ℕ} → IsDesk ws → (i : ℕ) → Memᴰ i (left_to ws (count_in ws)) →
    ((job_in (rows_in ws) i).release ≤ latest_minute) × (1 ≤ (job_in (rows_in ws) i).length) ×
    ((job_in (rows_in ws) i).length ≤ longest_time) × ((job_in (rows_in ws) i).due ≤ latest_due)
left_ranged {ws} desk i m =
    let r = left_mem ws (count_in ws) m in
    let d = desk.rows i r.0 r.1 in
    rw (row_held ws i r.0 r.1) (d.0, omega (arith, d.1), omega (arith, d.2, desk.opening), d.3)

module _ (ws : List ℕ) {n : ℕ} {rows : List ℕ} (counted : n ≡ length (left_to ws (count_in ws)))
    (numbered : Filled row_places (from 1) (left_at ws) n rows) where
  -- The number at each place is that of a row of the desk.
  pub row_range : (k : ℕ) → k < n → (1 ≤ at rows (k + 1)) × (at rows (k + 1) ≤ count_in ws)
  row_range k h = omega (arith, numbered.filled k h, (left_rising ws (count_in ws)).range k (omega arith))

  module _ (desk : IsDesk ws) where
    pub rows_small : (p : ℕ) → at rows p ≤ most_rows
    rows_small = numbered.within most_rows (λ k h. omega (arith, (left_rising ws (count_in ws)).range k (omega arith), desk.count))

    -- What no row of the desk exceeds in a column, no place does.
    pub column_within : (before bound : ℕ) → ((i : ℕ) → 1 ≤ i → i ≤ count_in ws → at ws (before + i) ≤ bound) → {column : List ℕ} →
        Filled row_places (from 1) (word_left ws before rows) n column → (p : ℕ) → at column p ≤ bound
    column_within before bound h f = f.within bound (λ k g. let r = row_range k g in h (at rows (k + 1)) r.0 r.1)

    pub columns_within : {release minutes due : List ℕ} → Filled row_places (from 1) (word_left ws releases rows) n release →
        Filled row_places (from 1) (word_left ws times rows) n minutes → Filled row_places (from 1) (word_left ws dues rows) n due →
        (k : ℕ) → Within latest_minute longest_time latest_due (columns release minutes due k)
    columns_within f g h k = (
      column_within releases latest_minute (λ i l m. (desk.rows i l m).0) f k,
      column_within times longest_time (λ i l m. omega (arith, (desk.rows i l m).2, desk.opening)) g k,
      column_within dues latest_due (λ i l m. (desk.rows i l m).3) h k,
    )

module _ (ws : List ℕ) (left : Left) (g : Gathered ws left) where
  abbrev row : ℕ → ℕ
  row = at left.rows

  -- Each number from 1 on has the job of its row.
  job_at_lem : (k : ℕ) → k < left.count → jobs_left left (k + 1) ≡ job_in (rows_in ws) (row (k + 1))
  job_at_lem k h =
      let r = row_range ws g.counted g.numbered k h in
      (λ x. record { release = g.released.filled k h x; length = g.timed.filled k h x; due = g.dated.filled k h x }) ∙
      sym (row_held ws (row (k + 1)) r.0 r.1)

  same_jobs : (k : ℕ) → 1 ≤ k → k ≤ left.count → jobs_left left k ≡ job_in (rows_in ws) (row k)
  same_jobs = counted_from_one left.count (λ (k : ℕ). jobs_left left k ≡ job_in (rows_in ws) (row k)) job_at_lem

  -- The plain rows are so many, and have the same jobs.
  plain_count : length (plain_left (running ws)) ≡ left.count
  plain_count = plain_size (job_in (rows_in ws)) (left_to ws (count_in ws)) ∙ sym g.counted

  plain_at : (k : ℕ) → k < left.count → jobs_left left (k + 1) ≡ job (plain_left (running ws)) (k + 1)
  plain_at k h =
      let e : suc k ≡ k + 1 = omega arith in
      let inside : k < length (left_to ws (count_in ws)) = omega (arith, g.counted) in
      job_at_lem k h ∙ ap (job_in (rows_in ws)) (g.numbered.filled k h) ∙ sym (plain_job (job_in (rows_in ws)) (left_to ws (count_in ws)) k
      inside) ∙ ap (job (plain_left (running ws))) e

  plain_jobs : (k : ℕ) → 1 ≤ k → k ≤ left.count → jobs_left left k ≡ job (plain_left (running ws)) k
  plain_jobs = counted_from_one left.count (λ (k : ℕ). jobs_left left k ≡ job (plain_left (running ws)) k) plain_at

  -- What is tested of the columns is tested of the rows left.
  pub can_plan_told : (b : Bool) → FitTested (minute_in ws) (jobs_left left) left.count b → b ≡ can_plan (running ws)
  unfolding can_plan
  can_plan_told b t = t (plain_left (running ws)) plain_count plain_jobs

  -- The rows left are those of the numbers 1 to n, in their order.
  left_mapped : left_to ws (count_in ws) ≡ map row (count_from 1 left.count)
  left_mapped =
      ext_get_or 0 (left_to ws (count_in ws)) (map row (count_from 1 left.count))
      (sym g.counted ∙ sym (length-map (count_from 1 left.count) row ∙ length_count 1 left.count))
      (λ k h. let e : k + 1 ≡ 1 + k = omega arith in
      let inside : k < left.count = omega (arith, g.counted) in
      sym (g.numbered.filled k inside) ∙ ap row e ∙ sym (counted_at row 0 1 left.count k inside))

  pub left_matches : Matches left.count row (left_to ws (count_in ws)) (count_from 1 left.count)
  left_matches = record {
    among = λ k m. omega (arith, count_range 1 left.count m);
    counts = λ i. ap (count i) left_mapped;
    lengths = sym g.counted ∙ sym (length_count 1 left.count);
  }

  rises : (k l : ℕ) → k < l → l < left.count → row (k + 1) < row (l + 1)
  rises k l h f = omega (
    arith,
    (left_rising ws (count_in ws)).rises k l h (omega (arith, g.counted)),
    g.numbered.filled k (omega arith),
    g.numbered.filled l f,
  )

  pub left_renumbers : Renumbers left.count (job_in (rows_in ws)) (jobs_left left) row
  left_renumbers = record {
    ties = λ k l h f e d b. ordered k l h f e;
    same = same_jobs;
  }
    where
      ordered : (k l : ℕ) → 1 ≤ k → k < l → l ≤ left.count → row k ≤ row l
      ordered k l h f e =
          let a : k - 1 + 1 ≡ k = omega arith in
          let b : l - 1 + 1 ≡ l = omega arith in
          omega (arith, ap row a, ap row b, rises (k - 1) (l - 1) (omega arith) (omega arith))
