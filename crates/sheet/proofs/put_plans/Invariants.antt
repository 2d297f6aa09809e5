-- The sheet has the lines of the plans passed.
use Rattle.std.proofs.Common.{◌*◌, take}
use Rattle.lines.specs.Added.{Added}
use Rattle.sheet.specs.Shown.{plan_lines}
use Rattle.sheet.specs.Parts.{lines_of}
use Rattle.sheet.proofs.put_plans.Given as goal

abbrev pub invariant-loop-k : goal.invariant-loop-k
invariant-loop-k l = Added l.next l.at (2900 * l.k) l.initial.sheet (plan_lines 1 (take l.k (lines_of l.book))) l.sheet
