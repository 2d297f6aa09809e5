-- The tests at a word: they pass exactly if the word is there, of the kind that is due, with a value in range.
-- Assumes nothing.
use Prim.Native.Nat.{ℕ, ◌+◌, ◌<◌}
use mathlib.Core.Bool.{Bool, false, not}
use mathlib.Core.Path.{◌≡◌, refl, ap}
use mathlib.Core.List.{List}
use lib.ListN.{length}
use borrow.Author.Tests.{lt-leb, le-ltb, eqb-true, eq-eqb, not-false}
use Rattle.std.specs.Prelude.{Ok}
use Rattle.refusals.specs.Tests.{Tested, refuse_if, ◌then◌}
use Rattle.refusals.specs.Refusals.{by_cut, by_kind, by_range}
use Rattle.refusals.proofs.Tests.{then_left, then_right, not_refused}
use Rattle.words.specs.Words.{kind, value, word}
use Rattle.words.specs.WordTests.{outside, kind_tests, word_tests}
use Rattle.words.proofs.Words.{Word}

-- Tests in sequence pass where each does; one test where it is false.
pub both_pass : {a b : Tested} → a ≡ Ok tt → b ≡ Ok tt → (a then b) ≡ Ok tt
unfolding ◌then◌
both_pass e f = rw (e, f)

pub test_passes : {t : Bool} (n p : ℕ) → t ≡ false → refuse_if t n p ≡ Ok tt
unfolding refuse_if
test_passes n p e = rw e

module _ (k place : ℕ) (ws : List ℕ) (i : ℕ) where
  pub kind_passes : i < length ws → kind (word ws i) ≡ k → kind_tests k place ws i ≡ Ok tt
  unfolding kind_tests
  kind_passes there e =
      both_pass (test_passes by_cut (place + length ws) (lt-leb (length ws) i there))
      (test_passes by_kind (place + i) (ap not (eq-eqb (kind (word ws i)) k e)))

  pub kind_passed : kind_tests k place ws i ≡ Ok tt → kind (word ws i) ≡ k
  unfolding kind_tests
  kind_passed e =
      eqb-true (kind (word ws i)) k (not-false _ (not_refused _ by_kind (place + i) (then_right _ _ e)))

  pub word_passes : (lo hi : ℕ) → kind (word ws i) ≡ k → Word lo hi ws i → word_tests k lo hi place ws i ≡ Ok tt
  unfolding word_tests
  word_passes lo hi e w =
      let v = value (word ws i) in
      let inside : outside v lo hi ≡ false = rw (le-ltb v lo w.least, le-ltb hi v w.most) refl in
      both_pass (kind_passes w.there e) (test_passes by_range (place + i) inside)

  pub word_passed : (lo hi : ℕ) → word_tests k lo hi place ws i ≡ Ok tt → kind (word ws i) ≡ k
  unfolding word_tests
  word_passed lo hi e = kind_passed (then_left _ _ e)
