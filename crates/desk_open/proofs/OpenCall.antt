-- What the call gives, step by step: the refusals, and the words of the desk from the columns of the rows that the reader gave.
-- Assumes nothing.
use Prim.Native.Nat.{ℕ, suc, ◌+◌, ◌≤◌, ◌<◌}
use native.Mathlib.Omega.{arith}
use mathlib.Core.Path.{◌≡◌, sym, ap, ◌∙◌}
use mathlib.Core.List.{List, [], ◌∷◌, map}
use lib.ListN.{length, take, drop, replicate, length-map, length-drop}
use lib.Seq.{ext_get_or, length-take-le, get_or-take, get_or-drop}
use borrow.Author.Tests.{lt-ltb, le-ltb}
use Rattle.std.specs.Prelude.{Result, Ok, Err}
use Rattle.schedule.specs.Limits.{most_rows, row_places}
use Rattle.schedule.specs.declared.Row.{Row}
use Rattle.schedule.specs.Rows.{no_row, row, job, Day, with_opening, jobs}
use Rattle.schedule.specs.Columns.{at, columns}
use Rattle.schedule.proofs.Filling.{mapped_at}
use Rattle.refusals.specs.declared.Refusal.{Refusal}
use Rattle.refusals.specs.Refusals.{by_narrow}
use Rattle.refusals.specs.Tests.{refusal_at}
use Rattle.book.specs.Rows.{refused, accepted}
use Rattle.rows.specs.InColumns.{jobs_of}
use Rattle.rows.proofs.Laid.{release_of, due_of}
use Rattle.readers.specs.declared.Given.{Given}
use Rattle.readers.specs.Reads.{ordering_rule, read_by, Gives}
use Rattle.readers.proofs.Accepted.{accepted_day}
use Rattle.readers.proofs.Readings.{Passes, given_passed}
use Rattle.results.specs.Results.{written}
use Rattle.outcomes.specs.Planning.{gives}
use Rattle.running.specs.Words.{desk_words, releases, times, dues, pages, put}
use Rattle.desk_open.specs.Opens.{opened_words, open_call}
use Rattle.desk_open.proofs.Puts.{put_written}
use Rattle.desk_open.proofs.OpenedWords.{time_of, pages_of_row, with_head, with_pages, with_dues, with_times, pages_room, dues_room}
use Rattle.desk_open.proofs.OpenedWords.{times_room, releases_room}

-- By what the reader gives: a refused book; a run that is too short; a desk.
module _ (opening : ℕ) (book ws : List ℕ) where
  pub open_no : (n p : ℕ) → read_by (ordering_rule opening) book ≡ refused n p → open_call opening book ws ≡ gives (Err (refusal_at n p)) ws
  unfolding open_call
  open_no n p e = rw (e, open_call)

  module _ (day : Day) (e : read_by (ordering_rule opening) book ≡ accepted day) where
    pub open_short : length ws < desk_words → open_call opening book ws ≡ gives (Err (refusal_at by_narrow 0)) ws
    unfolding open_call
    open_short h = rw (e, open_call, lt-ltb (length ws) desk_words h)

    pub open_yes : desk_words ≤ length ws →
        open_call opening book ws ≡ gives (Ok (record { rows = length day.rows; minute = day.free })) (written (opened_words opening day) ws)
    unfolding open_call
    open_yes h = rw (e, open_call, le-ltb (length ws) desk_words h)

-- The first places of a column, from 1 on: a number of each row.
column_rows : (f : Row → ℕ) (column : List ℕ) (rows : List Row) → length rows < length column →
    ((i : ℕ) → 1 ≤ i → i ≤ length rows → at column i ≡ f (row rows i)) → take (length rows) (drop 1 column) ≡ map f rows
column_rows f column rows h same =
    let n = length rows in
    let long : length (take n (drop 1 column)) ≡ n = length-take-le n (drop 1 column) (omega (arith, length-drop 1 column)) in
    ext_get_or 0 (take n (drop 1 column)) (map f rows) (long ∙ sym (length-map rows f))
    (λ i l.
    let inside : i < n = omega arith in
    let e : 1 + i ≡ suc i = omega arith in
    get_or-take n (drop 1 column) i 0 inside ∙ get_or-drop 1 column i 0 ∙ ap (at column) e ∙ same (suc i) (omega arith) (omega arith) ∙
    sym (mapped_at f rows i no_row 0 inside))

-- The head and the columns of a day's rows, put into a run one after another.
module _ (opening : ℕ) (day : Day) (few : length day.rows ≤ most_rows) (ws : List ℕ) (n : ℕ) (count : length day.rows ≡ n) where
  column_put : (f : Row → ℕ) (column : List ℕ) → length column ≡ row_places →
      ((i : ℕ) → 1 ≤ i → i ≤ n → at column i ≡ f (row day.rows i)) →
      (before : ℕ) (words : List ℕ) → before + 1 + length (map f day.rows) ≤ length words →
      (old new : List ℕ) → old ≡ written words ws → new ≡ put (before + 1) (take n (drop 1 column)) old →
      new ≡ written (put (before + 1) (map f day.rows) words) ws
  column_put f column places same before words room old new holds puts =
      let rows : take n (drop 1 column) ≡ map f day.rows =
      ap (λ (m : ℕ). take m (drop 1 column)) (sym count) ∙
      column_rows f column day.rows (omega arith) (λ i h g. same i h (omega arith)) in
      puts ∙ (λ x. put (before + 1) (rows x) (holds x)) ∙ put_written (before + 1) (map f day.rows) words room ws

  pub day_put : (release minutes due paged : List ℕ) → length release ≡ row_places → length minutes ≡ row_places →
      length due ≡ row_places → length paged ≡ row_places →
      ((i : ℕ) → 1 ≤ i → i ≤ n → columns release minutes due i ≡ jobs opening day i) →
      ((i : ℕ) → 1 ≤ i → i ≤ n → at paged i ≡ (row day.rows i).pages) →
      (headed leaved dued timed released : List ℕ) → headed ≡ written (put 0 (n ∷ day.free ∷ 0 ∷ opening ∷ []) (replicate desk_words 0))
      ws →
      leaved ≡ put (pages + 1) (take n (drop 1 paged)) headed → dued ≡ put (dues + 1) (take n (drop 1 due)) leaved → timed ≡ put (times +
      1) (take n (drop 1 minutes)) dued →
      released ≡ put (releases + 1) (take n (drop 1 release)) timed → released ≡ written (opened_words opening day) ws
  unfolding opened_words
  day_put release minutes due paged p q r s same of-rows headed leaved dued timed released h g d l e =
      let a = h ∙ ap (λ (m : ℕ). written (put 0 (m ∷ day.free ∷ 0 ∷ opening ∷ []) (replicate desk_words 0)) ws) (sym count) in
      let f = column_put pages_of_row paged s of-rows pages (with_head opening day) (pages_room opening day few) headed leaved a g in
      let b = column_put due_of due r (λ i g k x. (same i g k x).due) dues (with_pages opening day) (dues_room opening day few)
      leaved dued f d in
      let c = column_put (time_of opening) minutes q (λ i g k x. (same i g k x).length) times (with_dues opening day)
      (times_room opening day few) dued timed b l in
      column_put release_of release p (λ i g k x. (same i g k x).release) releases (with_times opening day)
      (releases_room opening day few) timed released c e

-- What the reader gave of an accepted book.
module _ (opening : ℕ) (book : List ℕ) (r : Result Given Refusal) (given : Given)
    (g : Gives opening (read_by (ordering_rule opening) book) r) (e : r ≡ Ok given) where
  d : Passes opening (read_by (ordering_rule opening) book) given
  d = given_passed opening (read_by (ordering_rule opening) book) r given g e

  pub given_sizes : (given.count ≤ most_rows) × (length given.columns.release ≡ row_places) ×
      (length given.columns.length ≡ row_places) × (length given.columns.due ≡ row_places) × (length given.columns.pages ≡ row_places)
  given_sizes =
      let few = (accepted_day (ordering_rule opening) book d.day d.contents).few_rows in
      (omega (arith, d.count), d.columns.releases, d.columns.lengths, d.columns.dues, d.pages.0)

  pub open_narrow : (ws : List ℕ) → length ws < desk_words → gives (Err (refusal_at by_narrow 0)) ws ≡ open_call opening book ws
  open_narrow ws h = sym (open_short opening book ws d.day d.contents h)

  pub open_done : (ws : List ℕ) → desk_words ≤ length ws → (new : List ℕ) →
      ((rows : List Row) → length rows ≡ given.count →
      ((i : ℕ) → 1 ≤ i → i ≤ given.count → jobs_of given.columns i ≡ with_opening opening (job rows i)) →
      ((i : ℕ) → 1 ≤ i → i ≤ given.count → at given.columns.pages i ≡ (row rows i).pages) →
      new ≡ written (opened_words opening (record { free = given.free; rows = rows })) ws) →
      gives (Ok (record { rows = given.count; minute = given.free })) new ≡ open_call opening book ws
  open_done ws wide new puts =
      let words = puts d.day.rows (sym d.count) (λ i h k. d.columns.jobs i h (omega (arith, d.count)))
      (λ i h k. d.pages.1 i) ∙
      ap (λ (t : ℕ). written (opened_words opening (record { free = t; rows = d.day.rows })) ws) d.free in
      (λ x. gives (Ok (record { rows = d.count x; minute = d.free x })) (words x)) ∙
      sym (open_yes opening book ws d.day d.contents wide)
