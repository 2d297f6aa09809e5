-- The words of a desk as a day opens it: what stands at each place. They hold the day's desk.
-- Assumes nothing.
use Prim.Native.Nat.{ℕ, zero, suc, ◌+◌, ◌≤◌, ◌<◌}
use native.Mathlib.Omega.{arith}
use mathlib.Core.Bool.{cond}
use mathlib.Core.Path.{◌≡◌, refl, sym, ap, ◌∙◌}
use mathlib.Core.List.{List, [], ◌∷◌, ◌++◌, map}
use mathlib.Core.Logic.{inl}
use lib.Dec.{eqb}
use lib.ListN.{length, drop, replicate, length-append, length-drop, length-map, length-replicate, get_or-replicate, get_or-append}
use lib.Seq.{ext_get_or}
use Rattle.schedule.specs.Limits.{most_rows}
use Rattle.schedule.specs.declared.Row.{Row}
use Rattle.schedule.specs.Rows.{no_row, row, Day, jobs, count_from}
use Rattle.schedule.specs.Columns.{at}
use Rattle.schedule.proofs.Numbers.{from_mem, length_count, count_last}
use Rattle.schedule.proofs.Filling.{mapped_at}
use Rattle.rows.proofs.Laid.{release_of, due_of}
use Rattle.readers.specs.Reads.{ordering_rule}
use Rattle.readers.specs.Accepted.{AcceptedDay}
use Rattle.results.specs.Results.{written}
use Rattle.running.specs.Running.{no_job, rows_seen, pages_of, opened}
use Rattle.running.specs.Words.{desk_words, count_in, minute_in, worst_in, opening_in, releases, times, dues, marks, pages, put}
use Rattle.running.specs.Words.{job_at, rows_in, pages_held, left_to, worst_held, running, IsDesk, KeepsPages}
use Rattle.running.proofs.Fits.{counted_at, rows_length}
use Rattle.running.proofs.Puts.{put_length, put_inside, put_before, put_after}
use Rattle.desk_open.specs.Opens.{opened_words}

-- A number of each row, put after a place: that of row i stands i places on.
column_at : (f : Row → ℕ) (before : ℕ) (rows : List Row) (ws : List ℕ) →
    before + 1 + length (map f rows) ≤ length ws → (i : ℕ) → 1 ≤ i → i ≤ length rows →
    at (put (before + 1) (map f rows) ws) (before + i) ≡ f (row rows i)
column_at f before rows ws room zero h g = let z : ⊥ = omega arith in absurd z
column_at f before rows ws room (suc k) h g =
    let place : before + suc k ≡ before + 1 + k = omega arith in
    ap (at (put (before + 1) (map f rows) ws)) place ∙
    put_inside (before + 1) (map f rows) ws room k (omega (arith, length-map rows f)) ∙ mapped_at f rows k no_row 0 (omega arith)

-- The time of a row at the desk.
abbrev pub time_of : (opening : ℕ) → Row → ℕ
time_of opening r = opening + r.length

-- The pages of a row.
abbrev pub pages_of_row : Row → ℕ
pages_of_row r = r.pages

-- The words as they are put one column after another.
abbrev head_of : (opening : ℕ) → Day → List ℕ
head_of opening day = length day.rows ∷ day.free ∷ 0 ∷ opening ∷ []

abbrev pub with_head : (opening : ℕ) → Day → List ℕ
with_head opening day = put 0 (head_of opening day) (replicate desk_words 0)

abbrev pub with_pages : (opening : ℕ) → Day → List ℕ
with_pages opening day = put (pages + 1) (map pages_of_row day.rows) (with_head opening day)

abbrev pub with_dues : (opening : ℕ) → Day → List ℕ
with_dues opening day = put (dues + 1) (map due_of day.rows) (with_pages opening day)

abbrev pub with_times : (opening : ℕ) → Day → List ℕ
with_times opening day = put (times + 1) (map (time_of opening) day.rows) (with_dues opening day)

module _ (opening : ℕ) (day : Day) (few : length day.rows ≤ most_rows) where
  abbrev rows : List Row
  rows = day.rows

  abbrev blank : List ℕ
  blank = replicate desk_words 0

  sized : (f : Row → ℕ) → length (map f rows) ≡ length rows
  sized f = length-map rows f

  -- Each of them has its room.
  head_room : 0 + 4 ≤ length blank
  head_room = omega (arith, length-replicate {A = ℕ} desk_words 0)

  head_long : length (with_head opening day) ≡ desk_words
  head_long = put_length 0 (head_of opening day) blank head_room ∙ length-replicate {A = ℕ} desk_words 0

  pub pages_room : pages + 1 + length (map pages_of_row rows) ≤ length (with_head opening day)
  pages_room = omega (arith, head_long, sized pages_of_row)

  pages_long : length (with_pages opening day) ≡ desk_words
  pages_long = put_length (pages + 1) (map pages_of_row rows) (with_head opening day) pages_room ∙ head_long

  pub dues_room : dues + 1 + length (map due_of rows) ≤ length (with_pages opening day)
  dues_room = omega (arith, pages_long, sized due_of)

  dues_long : length (with_dues opening day) ≡ desk_words
  dues_long = put_length (dues + 1) (map due_of rows) (with_pages opening day) dues_room ∙ pages_long

  pub times_room : times + 1 + length (map (time_of opening) rows) ≤ length (with_dues opening day)
  times_room = omega (arith, dues_long, sized (time_of opening))

  times_long : length (with_times opening day) ≡ desk_words
  times_long = put_length (times + 1) (map (time_of opening) rows) (with_dues opening day) times_room ∙ dues_long

  pub releases_room : releases + 1 + length (map release_of rows) ≤ length (with_times opening day)
  releases_room = omega (arith, times_long, sized release_of)

  pub opened_long : length (opened_words opening day) ≡ desk_words
  unfolding opened_words
  opened_long = put_length (releases + 1) (map release_of rows) (with_times opening day) releases_room ∙ times_long

  -- What stands before the columns, between them and after them.
  before_columns : (k : ℕ) → k < releases + 1 → at (opened_words opening day) k ≡ at (with_head opening day) k
  unfolding opened_words
  before_columns k h =
      put_before (releases + 1) (map release_of rows) (with_times opening day) releases_room k h ∙
      put_before (times + 1) (map (time_of opening) rows) (with_dues opening day) times_room k (omega arith) ∙
      put_before (dues + 1) (map due_of rows) (with_pages opening day) dues_room k (omega arith) ∙
      put_before (pages + 1) (map pages_of_row rows) (with_head opening day) pages_room k (omega arith)

  past_releases : (k : ℕ) → times < k → at (opened_words opening day) k ≡ at (with_times opening day) k
  unfolding opened_words
  past_releases k h =
      put_after (releases + 1) (map release_of rows) (with_times opening day) releases_room k (omega (arith, sized release_of))

  past_times : (k : ℕ) → dues < k → at (opened_words opening day) k ≡ at (with_dues opening day) k
  past_times k h = past_releases k (omega arith) ∙
      put_after (times + 1) (map (time_of opening) rows) (with_dues opening day) times_room k (omega (arith, sized (time_of opening)))

  past_dues : (k : ℕ) → marks < k → at (opened_words opening day) k ≡ at (with_pages opening day) k
  past_dues k h = past_times k (omega arith) ∙
      put_after (dues + 1) (map due_of rows) (with_pages opening day) dues_room k (omega (arith, sized due_of))

  blank_at : (k : ℕ) → 4 ≤ k → k < desk_words → at (with_head opening day) k ≡ 0
  blank_at k h g = put_after 0 (head_of opening day) blank head_room k (omega arith) ∙ get_or-replicate {A = ℕ} desk_words k 0 0 g

  count_at : at (opened_words opening day) 0 ≡ length rows
  count_at = before_columns 0 (omega arith) ∙ put_inside 0 (head_of opening day) blank head_room 0 (omega arith)

  minute_at : at (opened_words opening day) 1 ≡ day.free
  minute_at = before_columns 1 (omega arith) ∙ put_inside 0 (head_of opening day) blank head_room 1 (omega arith)

  worst_at_lem : at (opened_words opening day) 2 ≡ 0
  worst_at_lem = before_columns 2 (omega arith) ∙ put_inside 0 (head_of opening day) blank head_room 2 (omega arith)

  opening_at : at (opened_words opening day) 3 ≡ opening
  opening_at = before_columns 3 (omega arith) ∙ put_inside 0 (head_of opening day) blank head_room 3 (omega arith)

  job_at_lem : (i : ℕ) → 1 ≤ i → i ≤ length rows → job_at (opened_words opening day) i ≡ jobs opening day i
  unfolding opened_words
  job_at_lem i h g = λ x. record {
    release = column_at release_of releases rows (with_times opening day) releases_room i h g x;
    length = (past_releases (times + i) (omega arith) ∙ column_at (time_of opening) times rows (with_dues opening day) times_room i h g) x;
    due = (past_times (dues + i) (omega arith) ∙ column_at due_of dues rows (with_pages opening day) dues_room i h g) x;
  }

  mark_at : (i : ℕ) → 1 ≤ i → i ≤ length rows → at (opened_words opening day) (marks + i) ≡ 0
  mark_at i h g =
      past_dues (marks + i) (omega arith) ∙
      put_before (pages + 1) (map pages_of_row rows) (with_head opening day) pages_room (marks + i) (omega arith) ∙
      blank_at (marks + i) (omega arith) (omega arith)

  page_at : (i : ℕ) → 1 ≤ i → i ≤ length rows → at (opened_words opening day) (pages + i) ≡ (row rows i).pages
  page_at i h g = past_dues (pages + i) (omega arith) ∙ column_at pages_of_row pages rows (with_head opening day) pages_room i h g

-- Every row is left where no mark stands.
all_left : (ws : List ℕ) (n : ℕ) → ((i : ℕ) → 1 ≤ i → i ≤ n → at ws (marks + i) ≡ 0) → left_to ws n ≡ count_from 1 n
unfolding left_to count_from
all_left ws zero h = refl
all_left ws (suc n) h =
    let e : suc n ≡ 1 + n = omega arith in
    ap (λ (m : ℕ). cond (eqb m 0) (left_to ws n ++ (suc n ∷ [])) (left_to ws n)) (h (suc n) (omega arith) (omega arith)) ∙
    (λ x. all_left ws n (λ i l g. h i l (omega arith)) x ++ (e x ∷ [])) ∙ sym (count_last 1 n)

-- The rows that words hold, where each row number has its job.
rows_are : (opening : ℕ) (day : Day) (ws : List ℕ) → count_in ws ≡ length day.rows →
    ((i : ℕ) → 1 ≤ i → i ≤ length day.rows → job_at ws i ≡ jobs opening day i) → rows_in ws ≡ rows_seen opening day
rows_are opening day ws count same =
    ext_get_or no_job (rows_in ws) (rows_seen opening day) (rows_length ws ∙ count ∙ sym (length-map day.rows _))
    (λ i h.
    let l : i < count_in ws = omega (arith, rows_length ws) in
    let e : 1 + i ≡ suc i = omega arith in
    counted_at (job_at ws) no_job 1 (count_in ws) i l ∙ ap (job_at ws) e ∙ same (suc i) (omega arith) (omega arith) ∙
    sym (mapped_at _ day.rows i no_row no_job (omega arith)))

-- The pages that words hold, where each row number has its own.
pages_are : (day : Day) (ws : List ℕ) → count_in ws ≡ length day.rows →
    ((i : ℕ) → 1 ≤ i → i ≤ length day.rows → at ws (pages + i) ≡ (row day.rows i).pages) → pages_held ws ≡ pages_of day
pages_are day ws count same =
    let held : length (pages_held ws) ≡ count_in ws = length-map (count_from 1 (count_in ws)) _ ∙ length_count 1 (count_in ws) in
    ext_get_or 0 (pages_held ws) (pages_of day) (held ∙ count ∙ sym (length-map day.rows _))
    (λ i h.
    let l : i < count_in ws = omega (arith, held) in
    let e : 1 + i ≡ suc i = omega arith in
    counted_at _ 0 1 (count_in ws) i l ∙ ap (λ (k : ℕ). at ws (pages + k)) e ∙ same (suc i) (omega arith) (omega arith) ∙
    sym (mapped_at _ day.rows i no_row 0 (omega arith)))

-- The same in a run that holds them at its start.
module _ (opening : ℕ) (day : Day) (b : List ℕ) (a : AcceptedDay (ordering_rule opening) day) (wide : desk_words ≤ length b) where
  abbrev words : List ℕ
  words = opened_words opening day

  abbrev new : List ℕ
  new = written words b

  abbrev n : ℕ
  n = length day.rows

  long : length words ≡ desk_words
  long = opened_long opening day a.few_rows

  same_length : length new ≡ length b
  unfolding written
  same_length = omega (arith, length-append words (drop (length words) b), length-drop (length words) b, long)

  at_new : (k : ℕ) → k < desk_words → at new k ≡ at words k
  unfolding written
  at_new k h = get_or-append words (drop (length words) b) 0 k (omega (arith, long))

  count_is : count_in new ≡ n
  count_is = at_new 0 (omega arith) ∙ count_at opening day a.few_rows

  minute_is : minute_in new ≡ day.free
  minute_is = at_new 1 (omega arith) ∙ minute_at opening day a.few_rows

  worst_is : worst_in new ≡ 0
  worst_is = at_new 2 (omega arith) ∙ worst_at_lem opening day a.few_rows

  opening_is : opening_in new ≡ opening
  opening_is = at_new 3 (omega arith) ∙ opening_at opening day a.few_rows

  job_is : (i : ℕ) → 1 ≤ i → i ≤ n → job_at new i ≡ jobs opening day i
  job_is i h g =
      let f = a.few_rows in
      (λ x. record {
        release = at_new (releases + i) (omega arith) x;
        length = at_new (times + i) (omega arith) x;
        due = at_new (dues + i) (omega arith) x;
      }) ∙ job_at_lem opening day f i h g

  mark_is : (i : ℕ) → 1 ≤ i → i ≤ n → at new (marks + i) ≡ 0
  mark_is i h g = let f = a.few_rows in at_new (marks + i) (omega arith) ∙ mark_at opening day f i h g

  page_is : (i : ℕ) → 1 ≤ i → i ≤ n → at new (pages + i) ≡ (row day.rows i).pages
  page_is i h g = let f = a.few_rows in at_new (pages + i) (omega arith) ∙ page_at opening day f i h g

  is_desk_lem : IsDesk new
  is_desk_lem = record {
    long = omega (arith, same_length);
    count = omega (arith, count_is, a.some_row, a.few_rows);
    early = omega (arith, minute_is, a.early);
    opening = omega (arith, opening_is, a.opening);
    worst = inl worst_is;
    rows = λ i h g.
        let inside : i ≤ n = omega (arith, count_is) in
        let e = job_is i h inside in
        let r = a.ranged i (from_mem i 1 n h (omega arith)) in (
          rw (ap (λ j. j.release) e) r.0,
          omega (arith, opening_is, ap (λ j. j.length) e, r.1),
          omega (arith, opening_is, ap (λ j. j.length) e, r.2),
          rw (ap (λ j. j.due) e) r.3,
          omega (arith, mark_is i h inside),
        );
  }

  held : running new ≡ opened opening day
  held = λ x. record {
    opening = opening_is x;
    rows = rows_are opening day new count_is job_is x;
    pages = pages_are day new count_is page_is x;
    left = (ap (left_to new) count_is ∙ all_left new n mark_is) x;
    minute = minute_is x;
    worst = worst_held (worst_is x);
  }

  keeps : KeepsPages new
  keeps = record {
    desk = is_desk_lem;
    pages = λ i h g.
        let inside : i ≤ n = omega (arith, count_is) in
        omega (arith, page_is i h inside, a.pages i (from_mem i 1 n h (omega arith)));
  }

  pub opened_held : KeepsPages new × (running new ≡ opened opening day) × (length new ≡ length b)
  opened_held = (keeps, held, same_length)
