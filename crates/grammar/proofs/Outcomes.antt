-- How a book comes out, row after row: refused with what is wrong first, or accepted with nothing wrong.
-- Assumes nothing.
use Prim.Native.Nat.{ℕ, zero, suc, ◌+◌, ◌*◌, ◌<◌}
use native.Mathlib.Omega.{arith}
use mathlib.Core.Bool.{Bool, true, false}
use mathlib.Core.Path.{◌≡◌, refl, ap, sym, ◌∙◌, subst}
use mathlib.Core.List.{List, [], ◌∷◌, ◌++◌, map-append}
use lib.ListN.{length, drop, length-append, length-map}
use lib.Seq.{drop-drop}
use Rattle.schedule.specs.Limits.{most_rows}
use Rattle.schedule.specs.declared.Row.{Row}
use Rattle.schedule.specs.Rows.{Day}
use Rattle.refusals.specs.Tests.{Tested}
use Rattle.words.specs.Words.{value, word}
use Rattle.row_reader.specs.RowWords.{numbers_of, row_of}
use Rattle.book.specs.Rows.{Contents, refused, accepted, refused_or, end_stands, tried_rows, read_rows}
use Rattle.book.specs.Book.{read_words}
use Rattle.book.proofs.Reached.{read_end, read_on_lem}
use Rattle.grammar.specs.Words.{value_at, Wrong, FirstWrong}
use Rattle.grammar.proofs.Tests.{Leaves, passes, refuses, At, same_word}
use Rattle.grammar.proofs.Column.{column_none, column_on}
use Rattle.grammar.proofs.RowTests.{head_leaves, Begins, row_leaves}
use Rattle.grammar.proofs.EndTests.{end_stands_lem, no_end_stands, end_leaves}

module _ (book : List ℕ) where
  -- What the contents of a book say of it.
  pub data Outcome : Contents → Type 0 where
    wrong : (n p : ℕ) → FirstWrong book n p → Outcome (refused n p)
    right : (day : Day) → ((n p : ℕ) → ¬ Wrong book n p) → Outcome (accepted day)

  or_outcome : {P : Type 0} {o : Tested} (c : Contents) → Leaves book P o → (P → Outcome c) → Outcome (refused_or o c)
  or_outcome c (passes h) f = f h
  or_outcome c (refuses n p w) f = wrong n p w

  -- One row more is read: the next begins after its four words.
  begins_on : (pace : ℕ) (rows : List Row) (place : ℕ) → Begins book (numbers_of rows) place → At book (place + 4) →
      length (numbers_of rows) < most_rows → Begins book (numbers_of (rows ++ (row_of pace (drop place book) ∷ []))) (place + 4)
  begins_on pace rows place b a room =
      let r = row_of pace (drop place book) in
      let ns = numbers_of rows in
      let at : place + 0 ≡ 4 * length ns + 2 = omega (arith, b.is_place) in
      let v : r.number ≡ value_at book (4 * length ns + 2) = ap value (same_word book place 0 ∙ ap (word book) at) in
      let n = length-append ns (r.number ∷ []) in
      rw (map-append (λ (q : Row). q.number) rows (r ∷ [])) (record {
        at = a;
        is_place = omega (arith, b.is_place);
        few = omega arith;
        column = column_on book ns r.number b.column v;
      })

  -- One turn: the end word, or a row and what is read after it.
  module _ (more free pace : ℕ) (rows : List Row) (place : ℕ) (b : Begins book (numbers_of rows) place)
      (later : Begins book (numbers_of (rows ++ (row_of pace (drop place book) ∷ []))) (place + 4) →
      Outcome (read_rows more free pace (rows ++ (row_of pace (drop place book) ∷ [])) (place + 4) (drop 4 (drop place book)))) where
    count : length (numbers_of rows) ≡ length rows
    count = length-map rows (λ (r : Row). r.number)

    is_place : place ≡ 4 * length rows + 2
    is_place = omega (arith, count, b.is_place)

    turn_outcome : (t : Bool) → end_stands (length rows) (drop place book) ≡ t →
        Outcome (read_rows (suc more) free pace rows place (drop place book))
    turn_outcome true e =
        let ends = end_stands_lem book (length rows) place is_place e in
        subst Outcome (sym (read_end more free pace rows place (drop place book) e))
        (or_outcome _ (end_leaves book (length rows) place is_place b.at ends) (right _))
    turn_outcome false e =
        let goes = rw (← count) at (no_end_stands book (length rows) place is_place e) in
        subst Outcome (sym (read_on_lem more free pace rows place (drop place book) e))
        (or_outcome _ (row_leaves book (numbers_of rows) place b goes) (λ h. later (begins_on pace rows place b h.0 h.1)))

  rows_outcome : (more free pace : ℕ) (rows : List Row) (place : ℕ) (ws : List ℕ) → length rows + more ≡ tried_rows →
      Begins book (numbers_of rows) place → drop place book ≡ ws → Outcome (read_rows more free pace rows place ws)
  rows_outcome zero free pace rows place ws m b e =
      let x : ⊥ = omega (arith, b.few, length-map rows (λ (r : Row). r.number)) in absurd x
  rows_outcome (suc more) free pace rows place ws m b e =
      subst (λ (z : List ℕ). Outcome (read_rows (suc more) free pace rows place z)) e
      (turn_outcome more free pace rows place b (λ next.
      let r = row_of pace (drop place book) in
      rows_outcome more free pace (rows ++ (r ∷ [])) (place + 4) (drop 4 (drop place book))
      (omega (arith, length-append rows (r ∷ []))) next (sym (drop-drop 4 place book)))
      (end_stands (length rows) (drop place book)) refl)

  pub outcome : Outcome (read_words book)
  unfolding read_words
  outcome = or_outcome _ (head_leaves book) (λ a.
      rows_outcome tried_rows (value (word book 0)) (value (word book 1)) [] 2 (drop 2 book) refl
      (record { at = a; is_place = refl; few = omega arith; column = column_none book }) refl)
