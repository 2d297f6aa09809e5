-- The round trip: the book that is written from rows in range gives them back, and a book that passes tests 1 to 7 is one so written.
-- Assumes nothing.
use Prim.Native.Nat.{ℕ, ◌+◌, ◌<◌}
use native.Mathlib.Omega.{arith}
use mathlib.Core.Path.{◌≡◌, refl, sym, ap, ◌∙◌}
use mathlib.Core.List.{List, [], ◌∷◌, ◌++◌}
use mathlib.Core.Logic.{◌↔◌}
use lib.ListN.{length, drop}
use Rattle.std.specs.Prelude.{Ok}
use Rattle.schedule.specs.Limits.{latest_minute}
use Rattle.schedule.specs.Rows.{Day}
use Rattle.refusals.proofs.Tests.{then_left, then_right}
use Rattle.words.specs.Words.{value, word}
use Rattle.words.proofs.Words.{Word}
use Rattle.book.specs.Rows.{accepted, tried_rows, read_rows}
use Rattle.book.specs.Book.{head_tests, read_words}
use Rattle.book.proofs.Tests.{HeadFit, head_fits_lem}
use Rattle.book.proofs.Whole.{or_tests, or_contents, book_rows}
use Rattle.grammar.specs.Books.{Entry, word_of, entry_words, book_of, MayBeWritten, Tells, WrittenIsRead, ReadIsWritten}
use Rattle.grammar.proofs.WordValues.{kind_of, value_of, word_of_lem}
use Rattle.grammar.proofs.PassedWords.{both_pass, word_passes, word_passed}
use Rattle.grammar.proofs.NewNumbers.{new_start}
use Rattle.grammar.proofs.Rests.{MayFollow, rest_of, rest_read, rest_told}

-- The rest of a book after no rows.
rest_start : (es : List Entry) → entry_words es ++ (word_of 7 (length es) ∷ []) ≡ rest_of [] es
rest_start es = let none : 0 + length es ≡ length es = omega arith in rw none refl

-- The free minute and the pace.
module _ (free pace : ℕ) (es : List Entry) (m : MayBeWritten free pace es) where
  abbrev book : List ℕ
  book = book_of free pace es

  head_passes : head_tests book ≡ Ok tt
  unfolding head_tests
  head_passes =
      let first : Word 0 latest_minute book 0 = record { there = omega arith; least = omega arith; most = omega (arith, m.free_range) } in
      let second : Word 4 120 book 1 =
      record { there = omega arith; least = omega (arith, m.pace_range.0); most = omega (arith, m.pace_range.1) } in
      both_pass (word_passes 1 0 book 0 0 latest_minute (kind_of 1 free (omega (arith, m.free_range))) first)
      (word_passes 2 0 book 1 4 120 (kind_of 2 pace (omega (arith, m.pace_range.1))) second)

  follows : MayFollow [] es
  follows = record {
    some_row = omega (arith, m.some_row);
    few_rows = omega (arith, m.few_rows);
    ranged = m.ranged;
    differ = m.differ;
    new = new_start es;
  }

pub written_is_read : WrittenIsRead
unfolding read_words
written_is_read free pace es m =
    rw (head_passes free pace es m, value_of 1 free (omega (arith, m.free_range)), value_of 2 pace (omega (arith, m.pace_range.1)))
    (ap (read_rows tried_rows free pace [] 2) (rest_start es)
    ∙ rest_read tried_rows free pace [] 2 es refl (follows free pace es m))

-- Two words and the rest.
two : {a b : ℕ} (ws : List ℕ) → 1 < length ws → word ws 0 ≡ a → word ws 1 ≡ b → ws ≡ a ∷ b ∷ drop 2 ws
two [] h p q = let x : ⊥ = omega arith in absurd x
two (_ ∷ []) h p q = let x : ⊥ = omega arith in absurd x
two (_ ∷ _ ∷ ws) h p q = rw (p, q) refl

pub read_is_written : ReadIsWritten
unfolding read_words head_tests
read_is_written book day e =
    let t = or_tests (head_tests book) (book_rows book) e in
    let head : HeadFit book = head_fits_lem book t in
    let first = word_of_lem 1 (word book 0) (word_passed 1 0 book 0 0 latest_minute (then_left _ _ t)) in
    let second = word_of_lem 2 (word book 1) (word_passed 2 0 book 1 4 120 (then_right _ _ t)) in
    let rest = rest_told tried_rows (value (word book 0)) (value (word book 1)) [] 2 (drop 2 book) day refl
    (or_contents (head_tests book) (book_rows book) e) in
    let es = rest.entries in
    record {
      free = value (word book 0);
      pace = value (word book 1);
      entries = es;
      may = record {
        free_range = head.free.most;
        pace_range = (head.pace.least, head.pace.most);
        some_row = omega (arith, rest.may.some_row);
        few_rows = omega (arith, rest.may.few_rows);
        ranged = rest.may.ranged;
        differ = rest.may.differ;
      };
      is_book = two book head.pace.there first second
          ∙ ap (λ (ws : List ℕ). word_of 1 (value (word book 0)) ∷ word_of 2 (value (word book 1)) ∷ ws)
          (rest.is_words ∙ sym (rest_start es));
      is_day = rest.is_day;
    }

-- So a book gives a day exactly if it tells it.
pub tells : (book : List ℕ) (day : Day) → (read_words book ≡ accepted day) ↔ Tells book day
tells book day =
    (read_is_written book day, λ t. rw (t.is_book, t.is_day) (written_is_read t.free t.pace t.entries t.may))
