-- The column of times, row by row; and rows in columns with it: what planning sees of the rows.
-- Assumes nothing.
use Prim.Native.Nat.{ℕ, zero, suc, ◌+◌, ◌-◌, ◌≤◌, ◌<◌}
use borrow.Author.Rules.{rules}
use borrow.Rule.Slice.PartMut.{mid_of, put_mid, same_len_mid}
use Rattle.std.proofs.lemmas.List.{places}
use native.Mathlib.Omega.{arith}
use native.Mathlib.Decide.{dec_le}
use mathlib.Core.Path.{◌≡◌, ap, ◌∙◌}
use mathlib.Core.List.{List}
use lib.ListN.{length}
use Rattle.theory.specs.Jobs.{Job}
use Rattle.schedule.specs.declared.Row.{Row}
use Rattle.schedule.specs.Rows.{job, with_opening}
use Rattle.schedule.specs.Columns.{at}
use Rattle.rows.specs.declared.Columns.{Columns}
use Rattle.rows.specs.InColumns.{Within, jobs_of, InColumns}
use Rattle.readers.specs.Times.{Timed}
use Rattle.readers.proofs.Readings.{SeenIn}

-- The part of the column that holds the first n rows is put back with the opening added to each of its numbers.
module _ (opening n size : ℕ) (lengths part : List ℕ) (all : size ≡ n) (inside : n + 1 ≤ length lengths)
    (sized : length part ≡ length (mid_of 1 size lengths))
    (added : (k : ℕ) → k < length (mid_of 1 size lengths) → at part k ≡ opening + at (mid_of 1 size lengths) k) where
  long : length (mid_of 1 size lengths) ≡ n
  long = search (rules, places)

  pub timed : Timed opening n lengths (put_mid 1 size lengths part)
  timed = record {
    sized = same_len_mid 1 size lengths part sized;
    added = at_row;
    no_row = search (rules, places);
    past = λ i h. search (rules, places, long);
  }
    where
      at_row : (i : ℕ) → 1 ≤ i → i ≤ n → at (put_mid 1 size lengths part) i ≡ opening + at lengths i
      at_row i l m =
          let there : at (put_mid 1 size lengths part) i ≡ at part (i - 1) = search (rules, places, long) in
          let own : at (mid_of 1 size lengths) (i - 1) ≡ at lengths i = search (rules, places, long) in
          there ∙ rw own at (added (i - 1) (omega (arith, long)))

-- The columns of a table's rows, with their times in the place of their lengths.
module _ (opening : ℕ) (rows : List Row) (c : Columns) (columned : InColumns (job rows) (length rows) c) (times : List ℕ)
    (t : Timed opening (length rows) c.length times) where
  abbrev seen : Columns
  seen = record { release = c.release; length = times; due = c.due; pages = c.pages }

  own_length : (i : ℕ) → 1 ≤ i → i ≤ length rows → at c.length i ≡ (job rows i).length
  own_length i l m = ap (λ (j : Job). j.length) (columned.jobs i l m)

  time_at : (i : ℕ) → 1 ≤ i → i ≤ length rows → at times i ≡ opening + (job rows i).length
  time_at i l m = t.added i l m ∙ ap (λ (x : ℕ). opening + x) (own_length i l m)

  same : (i : ℕ) → 1 ≤ i → i ≤ length rows → jobs_of seen i ≡ with_opening opening (job rows i)
  same i l m = λ x. record {
    release = (columned.jobs i l m x).release;
    length = time_at i l m x;
    due = (columned.jobs i l m x).due;
  }

  within : (top long late : ℕ) → ((i : ℕ) → 1 ≤ i → i ≤ length rows → Within top long late (with_opening opening (job rows i))) → (i : ℕ) →
      Within top long late (jobs_of seen i)
  within top long late h i = let o = own i in (o.0, time_within i (dec_le i (length rows)), o.2)
    where
      own : (i : ℕ) → Within top long late (jobs_of c i)
      own = columned.within top long late (λ k l m. ((h k l m).0, omega (arith, (h k l m).1), (h k l m).2))

      time_within : (i : ℕ) → Dec (i ≤ length rows) → at times i ≤ long
      time_within zero d = omega (arith, t.no_row, (own 0).1)
      time_within (suc i) (yes l) = omega (arith, time_at (suc i) (omega arith) l, (h (suc i) (omega arith) l).1)
      time_within (suc i) (no l) = omega (arith, t.past (suc i) (omega arith), (own (suc i)).1)

  pub seen_in : SeenIn opening rows seen
  seen_in = record {
    jobs = same;
    releases = columned.releases;
    lengths = t.sized ∙ columned.lengths;
    dues = columned.dues;
    within = within;
  }
