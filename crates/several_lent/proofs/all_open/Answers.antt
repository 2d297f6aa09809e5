-- `all_open` meets its contract: the chain tests what the definition does.
-- Assumes nothing.
use borrow.Author.Rules.{rules}
use mathlib.Core.Path.{refl}
use lib.Dec.{leb}
use Rattle.std.proofs.lemmas.List.Recursion.{and_is}
use Rattle.schedule.specs.Limits.{latest_closing}
use Rattle.several_lent.specs.Lent.{all_open}
use Rattle.several_lent.proofs.all_open.Goals as goal

pub returns : goal.returns
unfolding all_open
returns c = and_is all_open (λ x. leb x latest_closing) refl (λ _ _. refl) c.args.closings.now 0 _ (search rules) (search rules)
