-- `begin` meets its contract: nothing is added up yet.
-- Assumes nothing.
use borrow.Author.Rules.{rules}
use Rattle.totals.specs.Report.{report_of}
use Rattle.totals.proofs.Totals.begin.Goals as goal

pub returns : goal.returns
unfolding report_of
returns c =
    let h = c.default.ensures in
    (simp (h.0, h.1.0, h.1.1.0, h.1.1.1.0, h.1.1.1.1), search rules, search rules)
