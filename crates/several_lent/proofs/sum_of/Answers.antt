-- `sum_of` meets its contract: the chain adds up what the total does.
-- Assumes nothing.
use borrow.Author.Rules.{rules}
use mathlib.Core.Path.{◌≡◌, refl, sym, ◌∙◌}
use Rattle.std.specs.List.{sum}
use Rattle.std.proofs.lemmas.List.Recursion.{is_sum_by}
use Rattle.several_lent.specs.Lent.{total}
use Rattle.several_lent.proofs.sum_of.Goals as goal

pub returns : goal.returns
unfolding total
returns c =
    let e : c.sum.result ≡ sum c.args.lengths.now = search rules in
    e ∙ sym (is_sum_by total (λ x. x) refl (λ _ _. refl) c.args.lengths.now)
