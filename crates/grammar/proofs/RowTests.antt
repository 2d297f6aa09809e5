-- The tests of a row's four words, and of the head of a book: refused, they tell what is wrong first; passed, the word after is due.
-- Assumes nothing.
use Prim.Native.Nat.{ℕ, ◌+◌, ◌*◌, ◌≤◌, ◌<◌}
use native.Mathlib.Omega.{arith}
use mathlib.Core.Bool.{Bool, true, false, cond}
use mathlib.Core.Path.{◌≡◌, refl, ap, sym, ◌∙◌, subst}
use mathlib.Core.List.{List}
use lib.Dec.{leb, eqb}
use lib.ListN.{length, drop}
use borrow.Author.Tests.{leb-true, leb-false, eqb-true, eqb-false}
use Rattle.schedule.specs.Limits.{latest_minute, latest_due, most_rows}
use Rattle.std.specs.Prelude.{None, Some}
use Rattle.schedule.specs.Rows.{stands}
use Rattle.refusals.specs.Refusals.{by_full, by_twice}
use Rattle.refusals.specs.Tests.{◌then◌}
use Rattle.words.specs.Words.{word, kind as kind_of, value as value_of}
use Rattle.words.specs.WordTests.{kind_tests, word_tests}
use Rattle.row_reader.specs.Due.{class_of, tests_by, due_tests}
use Rattle.row_reader.specs.RowWords.{number_tests, row_tests}
use Rattle.book.specs.Book.{head_tests}
use Rattle.grammar.specs.Words.{Wants, Ranged, kind_at, value_at, EndsAfter, FirstWrong}
use Rattle.grammar.proofs.Order.{look, Clear, first_wrong, clear_start}
use Rattle.grammar.proofs.Conditions.{is_full, past_full, past_range, is_twice, past_twice}
use Rattle.grammar.proofs.Asked.{asked, free_ranges, pace_ranges, release_ranges, pages_ranges, due_ranges, class_ranges}
use Rattle.grammar.proofs.Tests.{Leaves, then_leaves, leaves_so, if_leaves, At, Kinded, Asks, same_word, kind_leaves}
use Rattle.grammar.proofs.Column.{Column, stands_where, stands_nowhere}
use Rattle.grammar.proofs.WordTests.{word_done, word_leaves}

module _ (book : List ℕ) where
  -- The head: the free minute and the pace.
  start : At book 0
  start = record { clear = clear_start book; due = λ n l h. omega arith; reached = omega arith }

  pub head_leaves : Leaves book (At book 2) (head_tests book)
  unfolding head_tests
  head_leaves =
      then_leaves book (word_leaves book 1 0 latest_minute 0 0 1 free_ranges (omega arith) start
      (record { only = λ l w. (asked w).free refl; wants = Wants.free refl refl })) (λ a.
      word_leaves book 2 4 120 0 1 2 pace_ranges (omega arith) a
      (record { only = λ l w. (asked w).pace refl; wants = Wants.pace refl refl }))

-- The word at a place is due where a row would begin, after the rows that have these numbers.
pub record Begins (book numbers : List ℕ) (place : ℕ) : Type 0 where
  pub at : At book place
  pub is_place : place ≡ 4 * length numbers + 2
  pub few : length numbers ≤ most_rows
  pub column : Column book numbers

module _ (book numbers : List ℕ) (place : ℕ) (b : Begins book numbers place) (goes : ¬ EndsAfter book (length numbers)) where
  -- The number word: no end word stands in its place.
  only_number : place < length book → Wants place (kind_at book place) → kind_at book place ≡ 3
  only_number l w = go (eqb (length numbers) 0) refl
    where
      go : (t : Bool) → eqb (length numbers) 0 ≡ t → kind_at book place ≡ 3
      go true e = (asked w).first (omega (arith, b.is_place, eqb-true (length numbers) 0 e))
      go false e = (asked w).number (length numbers) b.is_place (λ k.
          let some = eqb-false (length numbers) 0 e in
          goes (record { some_row = omega arith; inside = omega (arith, b.is_place); is_end = rw b.is_place at k }))

  number_kind : Leaves book (Kinded book place 3) (kind_tests 3 place (drop place book) 0)
  number_kind =
      let e : place + 0 ≡ place = omega arith in
      let asks : Asks book place 3 = record { only = only_number; wants = Wants.number (length numbers) b.is_place refl } in
      subst (λ (p : ℕ). Leaves book (Kinded book p 3) (kind_tests 3 place (drop place book) 0)) e
      (kind_leaves book 3 place 0 (subst (At book) (sym e) b.at) (subst (λ (p : ℕ). Asks book p 3) (sym e) asks))

  number_leaves : Leaves book (At book (place + 1) × (length numbers < most_rows)) (number_tests numbers place (drop place book))
  unfolding number_tests
  number_leaves = then_leaves book number_kind (λ h.
      then_leaves book (if_leaves book _ (opens h) (leb-false most_rows (length numbers))) (λ r.
      if_leaves book _ (again h r) (new h r)))
    where
      opens : Kinded book place 3 → leb most_rows (length numbers) ≡ true → FirstWrong book by_full place
      opens h e =
          let l = leb-true most_rows (length numbers) e in
          let w = is_full book (omega (arith, b.is_place, b.few)) h.due h.inside h.is in
          first_wrong book by_full place w h.clear

      clear : Kinded book place 3 → length numbers < most_rows → Clear book (look by_twice place)
      clear h r =
          past_range book place (Ranged.number h.is) (past_full book place (λ e k. omega (arith, b.is_place)) h.clear)

      is_value : value_of (word (drop place book) 0) ≡ value_at book place
      is_value = ap value_of (same_word book place 0 ∙ ap (word book) (omega arith))

      again : Kinded book place 3 → length numbers < most_rows → stands (value_of (word (drop place book) 0)) numbers ≡ true →
          FirstWrong book by_twice place
      again h r e =
          let (j, l, s) = stands_where (value_of (word (drop place book) 0)) numbers e in
          let same : value_at book (4 * j + 2) ≡ value_at book place = sym (b.column j l) ∙ s ∙ is_value in
          first_wrong book by_twice place (is_twice book j (length numbers) b.is_place h.due h.inside h.is l same) (clear h r)

      new : Kinded book place 3 → length numbers < most_rows → stands (value_of (word (drop place book) 0)) numbers ≡ false →
          At book (place + 1) × (length numbers < most_rows)
      new h r e =
          let c = past_twice book place (λ i j p k l s.
          let m : i < length numbers = omega (arith, b.is_place) in
          stands_nowhere (value_of (word (drop place book) 0)) numbers e i m (b.column i m ∙ s ∙ sym is_value)) (clear h r) in
          (word_done book place (place + 1) refl h.due h.inside (λ k. omega (arith, h.is)) c, r)

  -- The due word, or a class word in its place.
  due_leaves : At book (place + 3) → Leaves book (At book (place + 4)) (due_tests place (drop place book))
  unfolding class_of tests_by
  due_leaves a = go (eqb (kind_of (word (drop place book) 3)) 0) refl
    where
      is_kind : kind_of (word (drop place book) 3) ≡ kind_at book (place + 3)
      is_kind = ap kind_of (same_word book place 3)

      at : place + 3 ≡ 4 * length numbers + 5
      at = omega (arith, b.is_place)

      go : (t : Bool) → eqb (kind_of (word (drop place book) 3)) 0 ≡ t →
          Leaves book (At book (place + 4)) (tests_by (cond t (Some (value_of (word (drop place book) 3))) None) place (drop place book))
      go true e =
          let z = sym is_kind ∙ eqb-true (kind_of (word (drop place book) 3)) 0 e in
          word_leaves book 0 0 7 place 3 (place + 4) class_ranges (omega arith) a
          (record { only = λ l w. z; wants = Wants.class (length numbers) at refl })
      go false e =
          let n = eqb-false (kind_of (word (drop place book) 3)) 0 e in
          word_leaves book 6 0 latest_due place 3 (place + 4) due_ranges (omega arith) a (record {
            only = λ l w. (asked w).due (length numbers) at (λ z. n (is_kind ∙ z));
            wants = Wants.due (length numbers) at refl;
          })

  -- All four words.
  pub row_leaves : Leaves book (At book (place + 4) × (length numbers < most_rows)) (row_tests numbers place (drop place book))
  unfolding row_tests
  row_leaves = then_leaves book number_leaves (λ h. leaves_so book (words h.0) (λ a. (a, h.1)))
    where
      release : At book (place + 1) → Leaves book (At book (place + 2)) (word_tests 4 0 latest_minute place (drop place book) 1)
      release a = word_leaves book 4 0 latest_minute place 1 (place + 2) release_ranges (omega arith) a (record {
        only = λ l w. (asked w).release (length numbers) (omega (arith, b.is_place));
        wants = Wants.release (length numbers) (omega (arith, b.is_place)) refl;
      })

      pages : At book (place + 2) → Leaves book (At book (place + 3)) (word_tests 5 1 2000 place (drop place book) 2)
      pages a = word_leaves book 5 1 2000 place 2 (place + 3) pages_ranges (omega arith) a (record {
        only = λ l w. (asked w).pages (length numbers) (omega (arith, b.is_place));
        wants = Wants.pages (length numbers) (omega (arith, b.is_place)) refl;
      })

      words : At book (place + 1) → Leaves book (At book (place + 4)) (word_tests 4 0 latest_minute place (drop place book) 1 then
          word_tests 5 1 2000 place (drop place book) 2 then due_tests place (drop place book))
      words a = then_leaves book (release a) (λ r. then_leaves book (pages r) due_leaves)
