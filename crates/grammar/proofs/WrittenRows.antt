-- The four words that are written of a row: they pass the tests of a row, and make the row that it comes to.
-- Assumes nothing.
use Prim.Native.Nat.{ℕ, ◌<◌}
use native.Mathlib.Omega.{arith}
use mathlib.Core.Bool.{false}
use mathlib.Core.Path.{◌≡◌, refl}
use mathlib.Core.List.{List, ◌∷◌}
use lib.ListN.{length}
use borrow.Author.Tests.{lt-leb}
use Rattle.std.specs.Prelude.{Ok}
use Rattle.schedule.specs.Limits.{most_rows, latest_minute, latest_due}
use Rattle.schedule.specs.Rows.{stands}
use Rattle.refusals.specs.Refusals.{by_twice, by_full}
use Rattle.words.specs.Words.{kind, value}
use Rattle.words.proofs.Words.{Word}
use Rattle.row_reader.specs.Due.{class_of, tests_by, due_by, due_tests, due_of}
use Rattle.row_reader.specs.RowWords.{number_tests, row_tests, row_of}
use Rattle.row_reader.specs.NearestMinute.{length_of}
use Rattle.grammar.specs.Books.{Sold, due, class, Entry, word_of, sold_word, due_by_sold, class_by_sold, row_by, SoldInRange, EntryInRange}
use Rattle.grammar.proofs.WordValues.{kind_of, value_of}
use Rattle.grammar.proofs.PassedWords.{both_pass, test_passes, kind_passes, word_passes}

-- The due word or class word after three others: the class that it tells, the due that it gives, and its tests.
module _ (a b c : ℕ) (rest : List ℕ) where
  abbrev with : ℕ → List ℕ
  with d = a ∷ b ∷ c ∷ d ∷ rest

  class_told : (s : Sold) → SoldInRange s → class_of (with (sold_word s)) ≡ class_by_sold s
  unfolding class_of
  class_told (due d) r = let k : kind (sold_word (due d)) ≡ 6 = omega arith in rw k refl
  class_told (class c) r =
      let k : kind (sold_word (class c)) ≡ 0 = omega arith in
      let v : value (sold_word (class c)) ≡ c = omega arith in
      rw (k, v) refl

  due_told : (s : Sold) → SoldInRange s → (release minutes : ℕ) →
      due_of release minutes (with (sold_word s)) ≡ due_by_sold release minutes s
  unfolding due_by
  due_told (due d) r release minutes = rw (class_told (due d) r, value_of 6 d (omega arith)) refl
  due_told (class c) r release minutes = rw (class_told (class c) r) refl

  due_passes : (s : Sold) → SoldInRange s → (place : ℕ) → due_tests place (with (sold_word s)) ≡ Ok tt
  unfolding tests_by
  due_passes (due d) r place = rw (class_told (due d) r)
      (word_passes 6 place (with (word_of 6 d)) 3 0 latest_due (kind_of 6 d (omega arith))
      (record { there = omega arith; least = omega arith; most = omega arith }))
  due_passes (class c) r place = rw (class_told (class c) r)
      (word_passes 0 place (with (word_of 0 c)) 3 0 7 (kind_of 0 c (omega arith))
      (record { there = omega arith; least = omega arith; most = omega arith }))

-- A row's words, and the words after them.
abbrev pub words_before : Entry → List ℕ → List ℕ
words_before e rest = word_of 3 e.number ∷ word_of 4 e.release ∷ word_of 5 e.pages ∷ sold_word e.sold ∷ rest

module _ (e : Entry) (ranged : EntryInRange e) (rest : List ℕ) where
  abbrev words : List ℕ
  words = words_before e rest

  pub row_made : (pace : ℕ) → row_of pace words ≡ row_by pace e
  row_made pace =
      let a = word_of 3 e.number in
      let b = word_of 4 e.release in
      let c = word_of 5 e.pages in
      rw (
        value_of 3 e.number ranged.number,
        value_of 4 e.release (omega (arith, ranged.release)),
        value_of 5 e.pages (omega (arith, ranged.pages.1)),
        due_told a b c rest e.sold ranged.sold e.release (length_of e.pages pace),
        class_told a b c rest e.sold ranged.sold,
      ) refl

  pub row_passes : (numbers : List ℕ) (place : ℕ) → length numbers < most_rows → stands e.number numbers ≡ false →
      row_tests numbers place words ≡ Ok tt
  unfolding row_tests number_tests
  row_passes numbers place room new =
      let a = word_of 3 e.number in
      let b = word_of 4 e.release in
      let c = word_of 5 e.pages in
      let number : stands (value a) numbers ≡ false = rw (value_of 3 e.number ranged.number) new in
      let release : Word 0 latest_minute words 1 =
      record { there = omega arith; least = omega arith; most = omega (arith, ranged.release) } in
      let pages : Word 1 2000 words 2 =
      record { there = omega arith; least = omega (arith, ranged.pages.0); most = omega (arith, ranged.pages.1) } in
      both_pass
      (both_pass (kind_passes 3 place words 0 (omega arith) (kind_of 3 e.number ranged.number))
      (both_pass (test_passes by_full place (lt-leb most_rows (length numbers) room)) (test_passes by_twice place number)))
      (both_pass (word_passes 4 place words 1 0 latest_minute (kind_of 4 e.release (omega (arith, ranged.release))) release)
      (both_pass (word_passes 5 place words 2 1 2000 (kind_of 5 e.pages (omega (arith, ranged.pages.1))) pages)
      (due_passes a b c rest e.sold ranged.sold place)))
