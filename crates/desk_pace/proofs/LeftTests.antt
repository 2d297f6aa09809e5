-- The test of the rows left by their new lengths, on columns: what the columns hold, and where a refusal is told.
-- Assumes nothing.
use Prim.Native.Nat.{ℕ, zero, suc, ◌+◌, ◌*◌, ◌/◌, ◌≤◌, ◌<◌}
use native.Mathlib.Omega.{arith}
use mathlib.Core.Path.{◌≡◌, sym, ap, ◌∙◌}
use mathlib.Core.List.{List, ◌∷◌}
use lib.ListN.{length, get_or}
use Rattle.std.specs.Prelude.{Ok, Err}
use Rattle.theory.specs.Jobs.{Job}
use Rattle.schedule.specs.Limits.{most_rows, row_places, latest_minute, longest_time, latest_due, most_pages, least_pace, most_pace}
use Rattle.schedule.specs.declared.Profile.TheVariants.{Ordering}
use Rattle.schedule.specs.Rows.{job}
use Rattle.schedule.specs.Columns.{at, columns}
use Rattle.schedule.specs.Filled.{Filled, from}
use Rattle.schedule.proofs.Filling.{counted_from_one}
use Rattle.refusals.specs.declared.Refusal.{Refusal}
use Rattle.refusals.specs.Tests.{Tested, refusal_at}
use Rattle.refusals.proofs.Tests.{never}
use Rattle.pairs.specs.Pairs.{number_word}
use Rattle.pairs.specs.Clashes.{PairsSettled, unclashing, clashing}
use Rattle.pairs.proofs.Clashes.{pairs_settled}
use Rattle.row_reader.specs.NearestMinute.{length_of}
use Rattle.row_reader.proofs.NearestMinute.{length_most}
use Rattle.rows.specs.InColumns.{Within}
use Rattle.readers.specs.Rules.{clash_by, number_by, rule_tests}
use Rattle.readers.specs.Seconds.{JobsTested}
use Rattle.readers.proofs.Rules.{clash_mutual}
use Rattle.running.specs.Running.{Running}
use Rattle.running.specs.Words.{count_in, releases, dues, pages, left_to, running, KeepsPages}
use Rattle.running.proofs.Fits.{row_held, pages_held_lem}
use Rattle.rows_left.specs.Gathered.{left_at, word_left}
use Rattle.rows_left.proofs.Plain.{plain_size, plain_job}
use Rattle.rows_left.proofs.Gathering.{row_range, column_within}
use Rattle.desk_pace.specs.Paces.{job_by_pace, left_by_pace, placed_back}
use Rattle.desk_pace.specs.Gathered.{length_left}

-- A refusal of a test of row pairs is told at the number word of one of the rows.
pub record TellsRow (n p : ℕ) : Type 0 where
  pub row : ℕ
  pub low : 1 ≤ row
  pub high : row ≤ n
  pub told : p ≡ number_word row

pub tells_row : (d : Running) (pace : ℕ) (refusal : Refusal) → rule_tests Ordering (left_by_pace d pace) ≡ Err refusal →
    TellsRow (length d.left) refusal.place
tells_row d pace refusal e =
    go (rule_tests Ordering (left_by_pace d pace)) (pairs_settled (clash_by Ordering) (clash_mutual Ordering) (number_by Ordering) (left_by_pace
    d pace)) e
  where
    go : (o : Tested) → PairsSettled (clash_by Ordering) (number_by Ordering) (left_by_pace d pace) o → o ≡ Err refusal →
        TellsRow (length d.left) refusal.place
    go _ (unclashing h) f = never (cc)
    go _ (clashing j k c) f = record {
      row = k;
      low = omega (arith, c.above);
      high = omega (arith, c.above, plain_size (job_by_pace d pace) d.left);
      told = let same : refusal_at (number_by Ordering) (number_word k) ≡ refusal = cc in sym (ap (λ (r : Refusal). r.place) same);
    }

-- The tests of the rows left: none is refused, or the refusal is told at the row's own number word.
module _ (d : Running) (pace : ℕ) where
  pub back_passed : rule_tests Ordering (left_by_pace d pace) ≡ Ok tt → placed_back d.left (rule_tests Ordering (left_by_pace d pace)) ≡ Ok tt
  unfolding placed_back
  back_passed e = rw e

  pub back_refused : (refusal : Refusal) → rule_tests Ordering (left_by_pace d pace) ≡ Err refusal →
      placed_back d.left (rule_tests Ordering (left_by_pace d pace)) ≡
      Err (refusal_at refusal.number (number_word (get_or (0 ∷ d.left) ((refusal.place + 2) / 4) 0)))
  unfolding placed_back
  back_refused refusal e = rw e

-- The numbers of the rows left, and the columns by them.
module _ (ws : List ℕ) (keeps : KeepsPages ws) (pace : ℕ) (paced : (least_pace ≤ pace) × (pace ≤ most_pace)) {n : ℕ} {rows : List ℕ}
    (counted : n ≡ length (left_to ws (count_in ws))) (numbered : Filled row_places (from 1) (left_at ws) n rows) where
  abbrev d : Running
  d = running ws

  pub pages_small : (k : ℕ) → k < n → at ws (pages + at rows (k + 1)) ≤ most_pages
  pages_small k h = let r = row_range ws counted numbered k h in (keeps.pages (at rows (k + 1)) r.0 r.1).1

  pub within : {release minutes due : List ℕ} → Filled row_places (from 1) (word_left ws releases rows) n release →
      Filled row_places (from 1) (length_left ws pace rows) n minutes → Filled row_places (from 1) (word_left ws dues rows) n due →
      (i : ℕ) → Within latest_minute longest_time latest_due (columns release minutes due i)
  within f g h i = (
    column_within ws counted numbered keeps.desk releases latest_minute (λ i l m. (keeps.desk.rows i l m).0) f i,
    g.within longest_time (λ k l. omega (arith, length_most _ pace (pages_small k l) paced.0)) i,
    column_within ws counted numbered keeps.desk dues latest_due (λ i l m. (keeps.desk.rows i l m).3) h i,
  )

  module _ (release minutes due : List ℕ) (f : Filled row_places (from 1) (word_left ws releases rows) n release)
      (g : Filled row_places (from 1) (length_left ws pace rows) n minutes) (h : Filled row_places (from 1) (word_left ws dues rows) n due)
    where
      job_at_lem : (k : ℕ) → k < n → columns release minutes due (k + 1) ≡ job (left_by_pace d pace) (k + 1)
      job_at_lem k l =
          let r = row_range ws counted numbered k l in
          let i = at rows (k + 1) in
          let own = sym (row_held ws i r.0 r.1) in
          let leaves = sym (pages_held_lem ws i r.0 r.1) in
          let e : suc k ≡ k + 1 = omega arith in
          (λ x. record {
            release = (f.filled k l ∙ ap (λ (j : Job). j.release) own) x;
            length = (g.filled k l ∙ ap (λ (m : ℕ). length_of m pace) leaves) x;
            due = (h.filled k l ∙ ap (λ (j : Job). j.due) own) x;
          }) ∙
          ap (job_by_pace d pace) (numbered.filled k l) ∙
          sym (plain_job (job_by_pace d pace) d.left k (omega (arith, counted))) ∙ ap (job (left_by_pace d pace)) e

      -- What is tested of the columns is tested of the rows left.
      pub told : (o : Tested) → JobsTested Ordering (columns release minutes due) n o → o ≡ rule_tests Ordering (left_by_pace d pace)
      told o t =
          t (left_by_pace d pace) (plain_size (job_by_pace d pace) d.left ∙ sym counted)
          (counted_from_one n (λ (k : ℕ). columns release minutes due k ≡ job (left_by_pace d pace) k) job_at_lem)

  -- The row that a refusal tells stands among the numbers.
  module _ (p : ℕ) (t : TellsRow n p) where
    abbrev k : ℕ
    k = (p + 2) / 4

    is_row : k ≡ t.row
    is_row = omega (arith, t.told, t.low)

    number_at : (i : ℕ) → 1 ≤ i → i ≤ n → at rows i ≡ get_or (0 ∷ d.left) i 0
    number_at zero h g = let z : ⊥ = omega arith in absurd z
    number_at (suc i) h g = let e : suc i ≡ i + 1 = omega arith in ap (at rows) e ∙ numbered.filled i (omega arith)

    pub own_row : at rows k ≡ get_or (0 ∷ d.left) k 0
    own_row = number_at k (omega (arith, is_row, t.low)) (omega (arith, is_row, t.high))

    pub own_fits : n ≤ most_rows → (p + 2 < 4 * row_places) × (1 ≤ at rows k) × (at rows k ≤ most_rows)
    own_fits few =
        let r = range k (omega (arith, is_row, t.low)) (omega (arith, is_row, t.high)) in (omega (arith, t.told, t.high), r.0, r.1)
      where
        range : (i : ℕ) → 1 ≤ i → i ≤ n → (1 ≤ at rows i) × (at rows i ≤ most_rows)
        range zero h g = let z : ⊥ = omega arith in absurd z
        range (suc i) h g =
            let e : suc i ≡ i + 1 = omega arith in
            let r = row_range ws counted numbered i (omega arith) in
            omega (arith, ap (at rows) e, r, keeps.desk.count)
