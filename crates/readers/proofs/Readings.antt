-- What the reader answers: from the table of tests 1 to 7, the test of its rows, and what planning sees of them in columns. And what a
-- caller knows of an answer.
-- Assumes nothing.
use Rattle.std.specs.Prelude.{Result, Ok, Err}
use Prim.Native.Nat.{ℕ, ◌≤◌}
use mathlib.Core.Path.{◌≡◌, refl, sym, ap, ◌∙◌, subst}
use mathlib.Core.List.{List}
use lib.ListN.{length}
use lib.Dec.{ltb}
use borrow.Author.Tests.{ltb-false}
use Rattle.refusals.specs.Refusals.{by_range}
use Rattle.refusals.specs.Tests.{refuse_if, refusal_at}
use Rattle.schedule.specs.declared.Row.{Row}
use Rattle.schedule.specs.Limits.{most_opening}
use Rattle.schedule.specs.Rows.{job, with_opening, Day, jobs}
use Rattle.refusals.specs.Tests.{Tested}
use Rattle.refusals.proofs.Tests.{never, not_refused}
use Rattle.book.specs.declared.Table.{Table}
use Rattle.refusals.specs.declared.Refusal.{Refusal}
use Rattle.book.specs.Rows.{Contents, refused, accepted}
use Rattle.book.specs.Book.{read_words}
use Rattle.book.specs.Tables.{table_of, table_rows, reading_of}
use Rattle.book.proofs.Tables.{table_rows_lem}
use Rattle.rows.specs.declared.Columns.{Columns}
use Rattle.rows.specs.InColumns.{InColumns, Column}
use Rattle.readers.specs.declared.Terms.{Terms}
use Rattle.readers.specs.declared.Given.{Given}
use Rattle.readers.specs.Rules.{rule_tests}
use Rattle.readers.specs.Reads.{opening_tests, tested_by, read_for, read_by, Gives}
use Rattle.readers.proofs.Told.{told_reads}

-- The pages of a row.
abbrev pub pages_of : Row → ℕ
pages_of r = r.pages

-- What planning sees of rows, in columns.
abbrev pub SeenIn : (opening : ℕ) → List Row → Columns → Type 0
SeenIn opening rows c = InColumns (λ i. with_opening opening (job rows i)) (length rows) c

-- A refusal of the words, whatever the test of the rows; and the table of words that pass, with a test of its rows and these in columns.
words_refused : (opening : ℕ) (tests : List Row → Tested) (x : Contents) (refusal : Refusal) → Err refusal ≡ reading_of x →
    Gives opening (tested_by tests x) (Err refusal)
unfolding reading_of tested_by
words_refused opening tests (refused n p) refusal e = cc
words_refused opening tests (accepted day) refusal e = never (cc)

module _ (opening : ℕ) (tests : List Row → Tested) (t : Table) where
  rows_refused : (x : Contents) → Ok t ≡ reading_of x → (refusal : Refusal) → tests (table_rows t) ≡ Err refusal →
      Gives opening (tested_by tests x) (Err refusal)
  unfolding reading_of tested_by
  rows_refused (refused n p) e refusal f = never (cc)
  rows_refused (accepted day) e refusal f =
      let same : t ≡ table_of day = cc in
      let told : tests day.rows ≡ Err refusal = ap tests (sym (table_rows_lem day) ∙ ap table_rows (sym same)) ∙ f in
      rw told refl

  rows_passed : (c : Columns) → SeenIn opening (table_rows t) c → Column pages_of c.pages (table_rows t) →
      (x : Contents) → Ok t ≡ reading_of x → tests (table_rows t) ≡ Ok tt →
      Gives opening (tested_by tests x) (Ok (record { free = t.free; count = t.count; columns = c }))
  unfolding reading_of tested_by table_of
  rows_passed c columned paged (refused n p) e f = never (cc)
  rows_passed c columned paged (accepted day) e f =
      let same : t ≡ table_of day = cc in
      let rows : table_rows t ≡ day.rows = ap table_rows same ∙ table_rows_lem day in
      let told : tests day.rows ≡ Ok tt = ap tests (sym rows) ∙ f in
      rw told (
        record { free = t.free; count = t.count; columns = c },
        refl,
        record {
          free = ap (λ (z : Table). z.free) same;
          count = ap (λ (z : Table). z.count) same;
          columns = rw (← rows) columned;
          pages = subst (Column pages_of c.pages) rows paged;
        },
      )

-- So a book is read by terms whose opening is in its range.
module _ (terms : Terms) (book : List ℕ) (told : terms.opening ≤ most_opening) where
  pub gives_words_refused : (refusal : Refusal) → Err refusal ≡ reading_of (read_words book) →
      Gives terms.opening (read_by terms book) (Err refusal)
  unfolding read_for
  gives_words_refused refusal e = rw (told_reads terms book told) (words_refused terms.opening (rule_tests terms.profile) (read_words book) refusal e)

  module _ (t : Table) (e : Ok t ≡ reading_of (read_words book)) where
    pub gives_rows_refused : (refusal : Refusal) → rule_tests terms.profile (table_rows t) ≡ Err refusal →
        Gives terms.opening (read_by terms book) (Err refusal)
    unfolding read_for
    gives_rows_refused refusal f =
        rw (told_reads terms book told) (rows_refused terms.opening (rule_tests terms.profile) t (read_words book) e refusal f)

    pub gives : (c : Columns) → SeenIn terms.opening (table_rows t) c → Column pages_of c.pages (table_rows t) →
        rule_tests terms.profile (table_rows t) ≡ Ok tt →
        Gives terms.opening (read_by terms book) (Ok (record { free = t.free; count = t.count; columns = c }))
    unfolding read_for
    gives c columned paged f =
        rw (told_reads terms book told)
        (rows_passed terms.opening (rule_tests terms.profile) t c columned paged (read_words book) e f)

-- The opening is tested before: it is refused, or in its range.
module _ (terms : Terms) (book : List ℕ) where
  pub opening_refused : (refusal : Refusal) → refuse_if (ltb most_opening terms.opening) by_range 0 ≡ Err refusal →
      Gives terms.opening (read_by terms book) (Err refusal)
  unfolding read_by opening_tests
  opening_refused refusal e = rw e refl

  pub opening_passed : refuse_if (ltb most_opening terms.opening) by_range 0 ≡ Ok tt → terms.opening ≤ most_opening
  opening_passed e = ltb-false most_opening terms.opening (not_refused (ltb most_opening terms.opening) by_range 0 e)

-- What a caller knows of an answer that passed, and of one that is refused.
pub record Passes (opening : ℕ) (x : Contents) (r : Given) : Type 0 where
  pub day : Day
  pub contents : x ≡ accepted day
  pub free : r.free ≡ day.free
  pub count : r.count ≡ length day.rows
  pub columns : InColumns (jobs opening day) (length day.rows) r.columns
  pub pages : Column pages_of r.columns.pages day.rows

pub given_passed : (opening : ℕ) (x : Contents) (r : Result Given Refusal) (g : Given) → Gives opening x r → r ≡ Ok g → Passes opening x g
given_passed opening (refused n p) r g h e = never (cc)
given_passed opening (accepted day) r g (given, is, told) e =
    let same : given ≡ g = cc in
    subst (λ (z : Given). Passes opening (accepted day) z) same (record {
      day = day;
      contents = refl;
      free = told.free;
      count = told.count;
      columns = told.columns;
      pages = told.pages;
    })

pub given_refused : (opening : ℕ) (x : Contents) (r : Result Given Refusal) (refusal : Refusal) → Gives opening x r → r ≡ Err refusal →
    x ≡ refused refusal.number refusal.place
given_refused opening (refused m q) r refusal g e = let same : refusal_at m q ≡ refusal = cc in rw (← same) refl
given_refused opening (accepted day) r refusal (given, is, told) e = never (cc)
