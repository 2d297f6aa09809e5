-- `posting_tests` meets its contract: a wrong length first, then the entries.
-- Assumes nothing.
use mathlib.Core.Path.{◌∙◌}
use Rattle.postings.proofs.Entries.{posting_uneven, posting_even}
use Rattle.postings.proofs.posting_tests.Goals as goal

pub returns-then-size-n : goal.returns-then-size-n
returns-then-size-n c = posting_uneven c.args.n c.args.posting.now _ c.if-size-n.true c.min.ensures

pub returns : goal.returns
returns c = c.entry_tests.ensures ∙ posting_even c.args.n c.args.posting.now c.if-size-n.false
