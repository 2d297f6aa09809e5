-- `number_of` meets its contract: no byte, a byte that is no digit, or digits.
-- Assumes nothing.
use Rattle.std.proofs.Common.{◌≡◌, length, sym, ◌∙◌}
use borrow.Author.Tests.{tests}
use borrow.Author.Rules.{rules}
use Rattle.text_words.proofs.Digits.{number_none, number_strange, number_digits}
use Rattle.text_words.proofs.number_of.Goals as goal

pub returns-then-is_empty : goal.returns-then-is_empty
returns-then-is_empty c =
    let none : length c.args.word.now ≡ 0 = search (rules, tests) in sym (number_none c.args.word.now none)

pub returns-then-not-all_digits : goal.returns-then-not-all_digits
returns-then-not-all_digits c =
    let some : length c.args.word.now ≡ 0 → ⊥ = search (rules, tests) in
    sym (number_strange c.args.word.now some (sym c.all_digits.ensures ∙ c.if-not-all_digits.true))

pub returns : goal.returns
returns c =
    let some : length c.args.word.now ≡ 0 → ⊥ = search (rules, tests) in
    c.value.ensures ∙ sym (number_digits c.args.word.now some (sym c.all_digits.ensures ∙ c.if-not-all_digits.false))
