-- Reading takes the free minute along and does nothing else with it.
-- Assumes nothing.
use Prim.Native.Nat.{ℕ, zero, suc, ◌+◌, ◌≤◌}
use native.Mathlib.Omega.{arith}
use mathlib.Core.Bool.{Bool, true, false}
use mathlib.Core.Path.{◌≡◌, refl, ap, ◌∙◌}
use mathlib.Core.List.{List, [], ◌∷◌, ◌++◌}
use lib.ListN.{length, drop, get_or}
use Rattle.std.specs.Prelude.{Ok, Err}
use Rattle.schedule.specs.Limits.{latest_minute}
use Rattle.schedule.specs.declared.Row.{Row}
use Rattle.schedule.specs.Rows.{Day}
use Rattle.refusals.specs.Tests.{Tested, ◌then◌}
use Rattle.words.specs.Words.{value, word}
use Rattle.words.specs.WordTests.{kind_tests, word_tests}
use Rattle.row_reader.specs.RowWords.{numbers_of, row_tests, row_of}
use Rattle.book.specs.Rows.{Contents, refused, accepted, day_of, refused_or, end_stands, end_tests, tried_rows, read_rows}
use Rattle.book.specs.Book.{head_tests, read_words}
use Rattle.grammar.specs.Words.{FirstWrong}
use Rattle.grammar.specs.Books.{word_of, Tells}
use Rattle.grammar.specs.FreeWord.{book_from, OwnMinute, FreeWord}
use Rattle.grammar.proofs.WordValues.{kind_of, value_of}
use Rattle.grammar.proofs.PassedWords.{word_passes}
use Rattle.grammar.proofs.Books.{tells}
use Rattle.grammar.proofs.Settled.{words_settled}

-- The same contents at another free minute.
abbrev freed : ℕ → Contents → Contents
freed free (refused n p) = refused n p
freed free (accepted day) = accepted (day_of free day.rows)

freed_or : (free : ℕ) (o : Tested) (c : Contents) → refused_or o (freed free c) ≡ freed free (refused_or o c)
freed_or free (Ok _) c = refl
freed_or free (Err refusal) c = refl

rows_freed : (free later more pace : ℕ) (rows : List Row) (place : ℕ) (ws : List ℕ) →
    read_rows more later pace rows place ws ≡ freed later (read_rows more free pace rows place ws)
unfolding read_rows
rows_freed free later zero pace rows place ws = refl
rows_freed free later (suc more) pace rows place ws =
    step (end_stands (length rows) ws) (rows_freed free later more pace (rows ++ (row_of pace ws ∷ [])) (place + 4) (drop 4 ws))
  where
    rest : ℕ → Contents
    rest f = read_rows more f pace (rows ++ (row_of pace ws ∷ [])) (place + 4) (drop 4 ws)

    at : ℕ → Bool → Contents
    at f b = elim b [
      | true ↦ refused_or (end_tests (length rows) place ws) (accepted (day_of f rows))
      | false ↦ refused_or (row_tests (numbers_of rows) place ws) (rest f)
    ]

    step : (b : Bool) → rest later ≡ freed later (rest free) → at later b ≡ freed later (at free b)
    step true e = freed_or later (end_tests (length rows) place ws) (accepted (day_of free rows))
    step false e =
        ap (refused_or (row_tests (numbers_of rows) place ws)) e ∙ freed_or later (row_tests (numbers_of rows) place ws) (rest free)

-- A free word in range passes, and the tests of the pace do not see it.
free_passes : (free : ℕ) (rest : List ℕ) → free ≤ latest_minute → word_tests 1 0 latest_minute 0 (book_from free rest) 0 ≡ Ok tt
free_passes free rest h = word_passes 1 0 (book_from free rest) 0 0 latest_minute (kind_of 1 free (omega arith))
    (record { there = omega arith; least = omega arith; most = omega arith })

module _ (free later : ℕ) (rest : List ℕ) (f : free ≤ latest_minute) (l : later ≤ latest_minute) where
  head_same : head_tests (book_from later rest) ≡ head_tests (book_from free rest)
  unfolding head_tests ◌then◌ word_tests kind_tests
  head_same = rw (free_passes free rest f, free_passes later rest l) refl

  read_freed : read_words (book_from later rest) ≡ freed later (read_words (book_from free rest))
  unfolding read_words
  read_freed =
      rw (head_same, value_of 1 free (omega arith), value_of 1 later (omega arith))
      (ap (refused_or (head_tests (book_from free rest)))
      (rows_freed free later tried_rows (value (get_or rest 0 0)) [] 2 (drop 1 rest)) ∙
      freed_or later (head_tests (book_from free rest)) _)

  rows_told : (rows : List Row) → Tells (book_from free rest) (day_of free rows) → Tells (book_from later rest) (day_of later rows)
  rows_told rows t =
      (tells (book_from later rest) (day_of later rows)).0
      (read_freed ∙ ap (freed later) ((tells (book_from free rest) (day_of free rows)).1 t))

  wrong_too : (n p : ℕ) → FirstWrong (book_from free rest) n p → FirstWrong (book_from later rest) n p
  wrong_too n p w =
      ((words_settled (book_from later rest)).refusals n p).0
      (read_freed ∙ ap (freed later) (((words_settled (book_from free rest)).refusals n p).1 w))

pub free_word : FreeWord
free_word free later rest f l = record {
  rows = λ rows. (rows_told free later rest f l rows, rows_told later free rest l f rows);
  wrong = λ n p. (wrong_too free later rest f l n p, wrong_too later free rest l f n p);
}

pub own_minute : OwnMinute
own_minute free rest day t =
    let same : word_of 1 free ≡ word_of 1 t.free = ap (λ (ws : List ℕ). word ws 0) t.is_book in
    let own = ap (λ (d : Day). d.free) t.is_day in
    (omega (arith, same, own), omega (arith, same, t.may.free_range))
