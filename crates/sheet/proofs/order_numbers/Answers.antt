-- `order_numbers` meets its contract: the order that the call writes, then its numbers.
-- Assumes nothing.
use borrow.Author.Rules.{rules}
use mathlib.Core.Path.{ap, ◌∙◌}
use mathlib.Core.List.{map}
use lib.IntN.{ℤ}
use lib.ListN.{get_or}
use Rattle.outcomes.specs.Outcomes.{OrderAnswer}
use Rattle.outcomes.specs.Planning.{Outcome}
use Rattle.calls.specs.Calls.{bound_call}
use Rattle.sheet.specs.Printing.{slate_terms}
use Rattle.sheet.proofs.Standing.{signed_word}
use native.Mathlib.Omega.{arith}
use Rattle.sheet.proofs.order_numbers.Goals as goal

pub returns : goal.returns
returns c =
    let a = c.args in record {
      order_len_unchanged = search rules;
      order_after = c.name_rows.ensures ∙ ap (map (λ i. get_or a.numbers.now i 0))
          (ap (λ (o : Outcome OrderAnswer). o.buffer) c.order_for_bound.ensures ∙ ap
          (λ (y : ℤ). (bound_call slate_terms a.book.now y a.order.now).buffer)
          (signed_word a.late (omega arith) c.signed_of.result c.signed_of.ensures));
    }
