-- The words passed stand in the bytes, and those before them stay.
use Rattle.std.proofs.Common.{ℕ, ◌≡◌, ◌+◌, ◌*◌, ◌<◌, length, get_or}
use Rattle.input.specs.Input.{word_at}
use Rattle.word_bytes.proofs.put_words.Given as goal

abbrev pub invariant-loop-k : goal.invariant-loop-k
invariant-loop-k l =
    (length l.bytes ≡ length l.initial.bytes) ×
    ((j : ℕ) → j < l.k → word_at l.bytes (l.at + 4 * j) ≡ get_or l.words j 0) ×
    ((i : ℕ) → i < l.at → get_or l.bytes i 0 ≡ get_or l.initial.bytes i 0)
