-- `pair_tests` meets its contract: where no pair clashes the test is passed, and else the scan tells.
-- Assumes nothing.
use mathlib.Core.Path.{sym, ◌∙◌}
use Rattle.pairs.proofs.Columns.{none_clashes}
use Rattle.pairs.proofs.pair_tests.Goals as goal

pub returns-then-not-any_clash : goal.returns-then-not-any_clash
returns-then-not-any_clash c =
    let a = c.args in
    none_clashes a.dues.now a.seconds.now a.count a.number (sym c.any_clash.ensures ∙ c.if-not-any_clash.true)
