-- The words taken, with those of the bytes that are left, are all.
use Rattle.std.proofs.Common.{◌≡◌, ◌-◌, ◌*◌, ◌++◌, length, take, drop}
use Rattle.input.specs.Input.{words_in}
use Rattle.input.proofs.words_within.Given as goal

abbrev pub invariant-loop-k : goal.invariant-loop-k
invariant-loop-k l =
    (length l.word-items ≡ l.count) ×
    (take l.k l.word-items ++ words_in (length l.fn.words - l.k) (drop (4 * l.k) l.input) ≡ words_in (length l.fn.words) l.input)
