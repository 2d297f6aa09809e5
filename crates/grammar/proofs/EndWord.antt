-- The end word: where it stands, and that its tests pass exactly if it is the one word left and tells the count of the rows.
-- Assumes nothing.
use Prim.Native.Nat.{ℕ, ◌+◌, ◌≤◌, ◌<◌}
use native.Mathlib.Omega.{arith}
use mathlib.Core.Bool.{Bool, true, false, not, ◌&&◌}
use mathlib.Core.Path.{◌≡◌, refl, ap, ◌∙◌}
use mathlib.Core.List.{List, [], ◌∷◌}
use lib.Dec.{ltb, eqb}
use lib.ListN.{length}
use borrow.Author.Tests.{ltb-true, ltb-false, lt-ltb, eqb-true, eq-eqb, not-false}
use Rattle.std.specs.Prelude.{Ok}
use Rattle.refusals.specs.Refusals.{by_count, by_tail}
use Rattle.refusals.proofs.Tests.{then_left, then_right, not_refused}
use Rattle.words.specs.Words.{kind, value, word}
use Rattle.row_reader.proofs.Tests.{and_left, and_right}
use Rattle.book.specs.Rows.{end_stands, end_tests}
use Rattle.grammar.specs.Books.{word_of}
use Rattle.grammar.proofs.WordValues.{Low, kind_of, value_of, word_of_lem}
use Rattle.grammar.proofs.PassedWords.{both_pass, test_passes}

and_no : (a : Bool) → (a && false) ≡ false
and_no true = refl
and_no false = refl

-- A number word is no end word.
pub end_not_yet : (n v : ℕ) (ws : List ℕ) → Low v → end_stands n (word_of 3 v ∷ ws) ≡ false
unfolding end_stands
end_not_yet n v ws low = rw (kind_of 3 v low, and_no (ltb 0 (length (word_of 3 v ∷ ws)))) (and_no (ltb 0 n))

module _ (n : ℕ) where
  pub end_here : 1 ≤ n → Low n → end_stands n (word_of 7 n ∷ []) ≡ true
  unfolding end_stands
  end_here some low = rw (kind_of 7 n low, lt-ltb 0 n some) refl

  pub end_passes : (place : ℕ) → Low n → end_tests n place (word_of 7 n ∷ []) ≡ Ok tt
  unfolding end_tests
  end_passes place low =
      both_pass (test_passes by_count place (ap not (eq-eqb (value (word_of 7 n)) n (value_of 7 n low))))
      (test_passes by_tail (place + 1) refl)

  -- One word.
  single : {a : ℕ} (ws : List ℕ) → 0 < length ws → length ws ≤ 1 → word ws 0 ≡ a → ws ≡ a ∷ []
  single [] h l e = let x : ⊥ = omega arith in absurd x
  single (_ ∷ []) h l e = rw e refl
  single (_ ∷ _ ∷ _) h l e = let x : ⊥ = omega arith in absurd x

  pub end_told : (place : ℕ) (ws : List ℕ) → end_stands n ws ≡ true → end_tests n place ws ≡ Ok tt → (1 ≤ n) × (ws ≡ word_of 7 n ∷ [])
  unfolding end_stands end_tests
  end_told place ws e t =
      let w = word ws 0 in
      let stands = and_right (ltb 0 n) (ltb 0 (length ws) && eqb (kind w) 7) e in
      let some = ltb-true 0 (length ws) (and_left (ltb 0 (length ws)) (eqb (kind w) 7) stands) in
      let seven = eqb-true (kind w) 7 (and_right (ltb 0 (length ws)) (eqb (kind w) 7) stands) in
      let count = eqb-true (value w) n (not-false _ (not_refused _ by_count place (then_left _ _ t))) in
      let last = ltb-false 1 (length ws) (not_refused _ by_tail (place + 1) (then_right _ _ t)) in (
        ltb-true 0 n (and_left (ltb 0 n) (ltb 0 (length ws) && eqb (kind w) 7) e),
        single ws some last (word_of_lem 7 w seven ∙ ap (word_of 7) count),
      )
