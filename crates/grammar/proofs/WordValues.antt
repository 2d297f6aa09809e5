-- A word of a kind and a value, and back: the kind and the value of the word so made, and the word that a kind and a value make.
-- Assumes nothing.
use Prim.Native.Nat.{ℕ, ◌<◌}
use native.Mathlib.Omega.{arith}
use mathlib.Core.Path.{◌≡◌}
use Rattle.words.specs.Words.{kind, value}
use Rattle.grammar.specs.Books.{word_of}

-- Values are the numbers of 29 bits.
abbrev pub Low : ℕ → Type 0
Low v = v < 536870912

pub kind_of : (k v : ℕ) → Low v → kind (word_of k v) ≡ k
kind_of k v low = omega arith

pub value_of : (k v : ℕ) → Low v → value (word_of k v) ≡ v
value_of k v low = omega arith

pub value_low : (w : ℕ) → Low (value w)
value_low w = omega arith

pub word_of_lem : (k w : ℕ) → kind w ≡ k → w ≡ word_of k (value w)
word_of_lem k w e = omega arith
