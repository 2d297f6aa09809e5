-- `value` meets its contract: from `v` on, the digits left give the number of all. Too large stays too large.
-- Assumes nothing.
use Rattle.std.proofs.Common.{◌≡◌, ◌<◌, drop}
use Rattle.text_words.specs.Numbers.{decimal}
use Rattle.text_words.proofs.value.Given as goal

abbrev pub invariant-loop-byte : goal.invariant-loop-byte
invariant-loop-byte l = (l.v < 536870912) × (decimal l.v (drop l.byte-index l.word) ≡ decimal 0 l.word)
