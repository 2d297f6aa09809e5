-- What passed tests say of a word.
-- Assumes nothing.
use Rattle.std.specs.Prelude.{Ok}
use Prim.Native.Nat.{ℕ, ◌+◌, ◌≤◌, ◌<◌}
use mathlib.Core.Bool.{Bool, true, false, ◌||◌}
use mathlib.Core.Path.{◌≡◌, refl}
use mathlib.Core.List.{List}
use lib.Dec.{ltb}
use lib.ListN.{length}
use borrow.Author.Tests.{ltb-false, leb-false}
use Rattle.refusals.specs.Refusals.{by_range}
use Rattle.refusals.specs.Tests.{refuse_if}
use Rattle.refusals.proofs.Tests.{never, then_left, then_right, not_refused}
use Rattle.words.specs.Words.{value, word}
use Rattle.words.specs.WordTests.{outside, kind_tests, word_tests}

neither : (a b : Bool) → (a || b) ≡ false → (a ≡ false) × (b ≡ false)
neither true b e = never (cc)
neither false b e = (refl, e)

-- A word that passed cut, kind and range.
pub record Word (lo hi : ℕ) (ws : List ℕ) (i : ℕ) : Type 0 where
  pub there : i < length ws
  pub least : lo ≤ value (word ws i)
  pub most : value (word ws i) ≤ hi

kind_there : (k place : ℕ) (ws : List ℕ) (i : ℕ) → kind_tests k place ws i ≡ Ok tt → i < length ws
unfolding kind_tests
kind_there k place ws i e = leb-false (length ws) i (not_refused _ _ _ (then_left _ _ e))

pub word_fits : (k lo hi place : ℕ) (ws : List ℕ) (i : ℕ) → word_tests k lo hi place ws i ≡ Ok tt → Word lo hi ws i
unfolding word_tests
word_fits k lo hi place ws i e =
    let v = value (word ws i) in
    let range = refuse_if (outside v lo hi) by_range (place + i) in
    let o = not_refused (outside v lo hi) by_range (place + i) (then_right (kind_tests k place ws i) range e) in
    record {
      there = kind_there k place ws i (then_left (kind_tests k place ws i) range e);
      least = ltb-false v lo (neither (ltb v lo) (ltb hi v) o).0;
      most = ltb-false hi v (neither (ltb v lo) (ltb hi v) o).1;
    }
