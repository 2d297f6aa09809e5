-- What is printed of an input, line by line.
-- Rests on: the input's words, the calls' Lines.
use Rattle.std.specs.Prelude.{ℕ, ◌/◌, cond, List, length}
use Rattle.refusals.specs.Refusals.{by_cut}
use Rattle.calls.specs.Lines.{Printed, refusal, printed}
use Rattle.readers.specs.declared.Terms.{Terms}
use Rattle.readers.specs.Reads.{ordering_rule}
use Rattle.input.specs.Input.{words_in, odd}

-- What slate tells the calls: to plan by the ordering rule, with no opening.
abbrev pub slate_terms : Terms
slate_terms = ordering_rule 0

-- An input with odd bytes is cut at its count of whole words, before any other test. Of any other the first 1,028 words are the book.
unfoldable pub prints : List ℕ → Printed
prints input = cond (odd input) (refusal by_cut (length input / 4)) (printed slate_terms (words_in 1028 input))
