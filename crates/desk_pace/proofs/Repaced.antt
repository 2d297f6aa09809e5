-- The words after a change of pace hold the desk after it, and differ from those before in the times of the rows left alone.
-- Assumes nothing.
use Prim.Native.Nat.{ℕ, zero, suc, ◌+◌, ◌-◌, ◌≤◌, ◌<◌}
use native.Mathlib.Omega.{arith}
use native.Mathlib.Decide.{dec_le}
use mathlib.Core.Bool.{Bool, true, false, cond}
use mathlib.Core.Path.{◌≡◌, refl, sym, ap, ◌∙◌}
use mathlib.Core.List.{List, map, Memᴰ}
use lib.Dec.{eqb}
use lib.ListN.{length, take, drop, length-map, length-drop}
use lib.Seq.{ext_get_or, length-take-le, get_or-take, get_or-drop}
use Rattle.theory.specs.Jobs.{Job}
use Rattle.schedule.specs.Limits.{most_rows, row_places, longest_length, least_pace, most_pace}
use Rattle.schedule.specs.Rows.{with_opening, count_from}
use Rattle.schedule.specs.Columns.{at}
use Rattle.schedule.specs.Filled.{Filled, from}
use Rattle.schedule.proofs.Numbers.{length_count, count_range}
use Rattle.schedule.proofs.SameJobs.{map_same}
use Rattle.schedule.proofs.Stands.{stands_mem}
use Rattle.row_reader.specs.NearestMinute.{length_of}
use Rattle.row_reader.proofs.NearestMinute.{length_least, length_most}
use Rattle.running.specs.Running.{Running, job_in}
use Rattle.running.specs.Words.{count_in, opening_in, releases, times, dues, marks, pages, job_at, rows_in, pages_held, left_to, worst_held}
use Rattle.running.specs.Words.{running, IsDesk, KeepsPages}
use Rattle.running.proofs.Fits.{counted_at, row_held, rows_length, pages_held_lem}
use Rattle.running.proofs.Left.{left_stands, left_same}
use Rattle.running.proofs.Puts.{put_length, put_inside, put_before, put_after}
use Rattle.desk_pace.specs.Paces.{job_by_pace, seen_by_pace, repaced, time_by_pace, repaced_words}

-- A column that is filled from place 1 on, as a list.
pub column_filled : (f : ℕ → ℕ) (n : ℕ) (column : List ℕ) → n ≤ most_rows → Filled row_places (from 1) (λ k. f (k + 1)) n column →
    take n (drop 1 column) ≡ map f (count_from 1 n)
column_filled f n column few filled =
    let long : length (take n (drop 1 column)) ≡ n = length-take-le n (drop 1 column) (omega (
      arith,
      length-drop 1 column,
      filled.sized,
    )) in
    ext_get_or 0 (take n (drop 1 column)) (map f (count_from 1 n))
    (long ∙ sym (length-map (count_from 1 n) f ∙ length_count 1 n))
    (λ i h.
    let inside : i < n = omega arith in
    let e : 1 + i ≡ i + 1 = omega arith in
    get_or-take n (drop 1 column) i 0 inside ∙ get_or-drop 1 column i 0 ∙ ap (at column) e ∙ filled.filled i inside ∙
    ap f (sym e) ∙ sym (counted_at f 0 1 n i inside))

module _ (ws : List ℕ) (keeps : KeepsPages ws) (pace : ℕ) where
  abbrev desk : IsDesk ws
  desk = keeps.desk

  abbrev n : ℕ
  n = count_in ws

  abbrev new : List ℕ
  new = repaced_words ws pace

  abbrev column : List ℕ
  column = map (time_by_pace ws pace) (count_from 1 n)

  size : length column ≡ n
  size = length-map (count_from 1 n) (time_by_pace ws pace) ∙ length_count 1 n

  room : times + 1 + length column ≤ length ws
  room = omega (arith, size, desk.long, desk.count)

  -- What stands at each place of the words after the change.
  pub repaced_length : length new ≡ length ws
  repaced_length = put_length (times + 1) column ws room

  before : (p : ℕ) → p ≤ times → at new p ≡ at ws p
  before p h = put_before (times + 1) column ws room p (omega arith)

  after : (p : ℕ) → times + n < p → at new p ≡ at ws p
  after p h = put_after (times + 1) column ws room p (omega (arith, size))

  time_new : (i : ℕ) → 1 ≤ i → i ≤ n → at new (times + i) ≡ time_by_pace ws pace i
  time_new zero h g = let z : ⊥ = omega arith in absurd z
  time_new (suc i) h g =
      let e : times + suc i ≡ times + 1 + i = omega arith in
      let f : 1 + i ≡ suc i = omega arith in
      ap (at new) e ∙ put_inside (times + 1) column ws room i (omega (arith, size)) ∙ counted_at (time_by_pace ws pace) 0 1 n i (omega
      arith) ∙
      ap (time_by_pace ws pace) f

  -- A place whose time is not moved has the word that it had.
  unmoved : (p : ℕ) → ((i : ℕ) → 1 ≤ i → i ≤ n → p ≡ times + i → time_by_pace ws pace i ≡ at ws (times + i)) → at new p ≡ at ws p
  unmoved p same = step (dec_le p times) (dec_le p (times + n))
    where
      step : Dec (p ≤ times) → Dec (p ≤ times + n) → at new p ≡ at ws p
      step (yes h) d = before p h
      step (no h) (no g) = after p (omega arith)
      step (no h) (yes g) =
          let i = p - times in
          let e : p ≡ times + i = omega arith in
          ap (at new) e ∙ time_new i (omega arith) (omega arith) ∙ same i (omega arith) (omega arith) e ∙ ap (at ws) (sym e)

  -- A row's time: a row done keeps it, and a row left keeps it where the new one is the same.
  kept_time : (i : ℕ) → 1 ≤ i → i ≤ n →
      (Memᴰ i (left_to ws n) → opening_in ws + length_of (at ws (pages + i)) pace ≡ at ws (times + i)) →
      time_by_pace ws pace i ≡ at ws (times + i)
  kept_time i h g same = step (eqb (at ws (marks + i)) 0) refl
    where
      step : (b : Bool) → eqb (at ws (marks + i)) 0 ≡ b →
          cond b (opening_in ws + length_of (at ws (pages + i)) pace) (at ws (times + i)) ≡ at ws (times + i)
      step true e = same (stands_mem i (left_to ws n) (left_stands ws n i h g ∙ e))
      step false e = refl

  -- Only the time of a row left is another word than before.
  pub writes : (p : ℕ) → ((i : ℕ) → Memᴰ i (left_to ws n) → ¬ (p ≡ times + i)) → at new p ≡ at ws p
  writes p away = unmoved p (λ i h g e. kept_time i h g (λ m. absurd (away i m e)))

  -- Where every row left has its time by this pace already, no word moves.
  pub same_words : ((i : ℕ) → Memᴰ i (left_to ws n) → opening_in ws + length_of (at ws (pages + i)) pace ≡ at ws (times + i)) → new ≡ ws
  same_words same = ext_get_or 0 new ws repaced_length (λ p l. unmoved p (λ i h g e. kept_time i h g (same i)))

  module _ (paced : (least_pace ≤ pace) × (pace ≤ most_pace)) where
    count_new : count_in new ≡ n
    count_new = before 0 (omega arith)

    opening_new : opening_in new ≡ opening_in ws
    opening_new = before 3 (omega arith)

    release_new : (i : ℕ) → i ≤ n → at new (releases + i) ≡ at ws (releases + i)
    release_new i h = before (releases + i) (omega (arith, desk.count))

    due_new : (i : ℕ) → 1 ≤ i → at new (dues + i) ≡ at ws (dues + i)
    due_new i h = after (dues + i) (omega (arith, desk.count))

    mark_new : (i : ℕ) → at new (marks + i) ≡ at ws (marks + i)
    mark_new i = after (marks + i) (omega (arith, desk.count))

    page_new : (i : ℕ) → at new (pages + i) ≡ at ws (pages + i)
    page_new i = after (pages + i) (omega (arith, desk.count))

    -- A time is the opening and a length, before and after.
    time_fits : (i : ℕ) → 1 ≤ i → i ≤ n → (opening_in ws + 1 ≤ at new (times + i)) × (at new (times + i) ≤ opening_in ws + longest_length)
    time_fits i h g = rw (time_new i h g) (step (eqb (at ws (marks + i)) 0))
      where
        step : (b : Bool) →
            let t = cond b (opening_in ws + length_of (at ws (pages + i)) pace) (at ws (times + i)) in
            (opening_in ws + 1 ≤ t) × (t ≤ opening_in ws + longest_length)
        step true = omega (
          arith,
          length_least (at ws (pages + i)) pace (keeps.pages i h g).0 paced.0 paced.1,
          length_most (at ws (pages + i)) pace (keeps.pages i h g).1 paced.0,
        )
        step false = let r = desk.rows i h g in (r.1, r.2)

    new_desk : IsDesk new
    new_desk = record {
      long = omega (arith, desk.long, repaced_length);
      count = omega (arith, desk.count, count_new);
      early = omega (arith, desk.early, before 1 (omega arith));
      opening = omega (arith, desk.opening, opening_new);
      worst = rw (before 2 (omega arith)) desk.worst;
      rows = λ i h g.
          let inside : i ≤ n = omega (arith, count_new) in
          omega (arith, desk.rows i h inside, time_fits i h inside, opening_new, release_new i inside, due_new i h, mark_new i);
    }

    new_keeps : KeepsPages new
    new_keeps = record { desk = new_desk; pages = λ i h g. omega (arith, keeps.pages i h (omega (arith, count_new)), page_new i) }

    -- What planning sees of each row.
    abbrev d : Running
    d = running ws

    seen_new : (i : ℕ) → 1 ≤ i → i ≤ n → job_at new i ≡ seen_by_pace d pace i
    seen_new i h g =
        (λ x. record { release = release_new i g x; length = time_new i h g x; due = due_new i h x }) ∙
        step (eqb (at ws (marks + i)) 0) ∙
        ap (λ (b : Bool). cond b (with_opening (opening_in ws) (job_by_pace d pace i)) (job_in (rows_in ws) i)) (sym (left_stands ws n i h g))
      where
        own : job_in (rows_in ws) i ≡ job_at ws i
        own = row_held ws i h g

        step : (b : Bool) →
            ◌≡◌ {A = Job}
            (record {
              release = at ws (releases + i);
              length = cond b (opening_in ws + length_of (at ws (pages + i)) pace) (at ws (times + i));
              due = at ws (dues + i);
            })
            (cond b (with_opening (opening_in ws) (job_by_pace d pace i)) (job_in (rows_in ws) i))
        step true = λ x. record {
          release = (sym own x).release;
          length = opening_in ws + length_of (sym (pages_held_lem ws i h g) x) pace;
          due = (sym own x).due;
        }
        step false = sym own

    rows_new : rows_in new ≡ (repaced d pace).rows
    rows_new =
        ap (λ (m : ℕ). map (job_at new) (count_from 1 m)) count_new ∙
        map_same (job_at new) (seen_by_pace d pace) (count_from 1 n)
        (λ i m. let r = count_range 1 n m in seen_new i (omega (arith, r)) (omega (arith, r))) ∙
        ap (λ (m : ℕ). map (seen_by_pace d pace) (count_from 1 m)) (sym (rows_length ws))

    pages_new : pages_held new ≡ pages_held ws
    pages_new =
        ap (λ (m : ℕ). map (λ i. at new (pages + i)) (count_from 1 m)) count_new ∙
        map_same _ _ (count_from 1 n) (λ i m. page_new i)

    left_new : left_to new (count_in new) ≡ left_to ws n
    left_new = ap (left_to new) count_new ∙ left_same ws new mark_new n

    -- The words hold a desk with its pages again, the one after the change.
    pub repaced_held : KeepsPages new × (running new ≡ repaced d pace)
    repaced_held = (
      new_keeps,
      λ x. record {
        opening = opening_new x;
        rows = rows_new x;
        pages = pages_new x;
        left = left_new x;
        minute = before 1 (omega arith) x;
        worst = worst_held (before 2 (omega arith) x);
      },
    )
