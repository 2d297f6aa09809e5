-- `first_plans` meets its contract: each turn takes the first plan of one desk more. Assumes nothing.
use Rattle.choice.proofs.Taking.{Taking}
use Rattle.choice.proofs.first_plans.Given as goal

abbrev pub invariant-loop-d : goal.invariant-loop-d
invariant-loop-d l =
    Taking l.plans l.fronts l.closings l.bound l.cursors l.late l.overtime l.d
