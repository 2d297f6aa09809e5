-- Only the first 1,028 words are looked at: the bytes after them change nothing.
-- Assumes nothing.
use Prim.Native.Nat.{ℕ, ◌≤◌, ◌<◌}
use mathlib.Core.Bool.{false}
use mathlib.Core.Path.{◌≡◌, refl, ap, sym}
use mathlib.Core.List.{List}
use native.Mathlib.Omega.{arith}
use native.Mathlib.Decide.{dec_lt}
use borrow.Author.Tests.{le-ltb}
use lib.ListN.{length, take}
use lib.Seq.{take_all, length-take-le}
use Rattle.input.specs.Input.{odd}
use Rattle.input.proofs.InputWords.{first_words}
use Rattle.sheet.specs.Printing.{prints}
use Rattle.sheet.specs.Shown.{shown}
use Rattle.sheet.specs.FirstWords.{OnlyFirstWords}

long_even : (input : List ℕ) → 4112 ≤ length input → odd input ≡ false
long_even input h = rw (le-ltb (length input) 4112 h) refl

pub only_first_words : OnlyFirstWords
unfolding shown prints
only_first_words input = go (dec_lt 4112 (length input))
  where
    go : Dec (4112 < length input) → shown input ≡ shown (take 4112 input)
    go (no h) = sym (ap shown (take_all 4112 input (omega arith)))
    go (yes h) =
        let k : length (take 4112 input) ≡ 4112 = length-take-le 4112 input (omega arith) in
        rw (prints, long_even input (omega arith), prints, long_even (take 4112 input) (omega arith), first_words 1028 input) refl
